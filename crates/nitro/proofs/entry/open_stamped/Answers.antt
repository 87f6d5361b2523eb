use mathlib.Core.Path.{◌∙◌}
use Rattle.nitro.specs.ContainerCode.{kind_means}
use Rattle.util.proofs.TryLaws.{refuses}
use Rattle.nitro.proofs.EntryLaws.{stamped_room, open_run, open_past, open_at}
use Rattle.nitro.proofs.entry.open_stamped.Goals as goal

-- `nitro::entry::open_stamped` meets its contract. Assumes nothing.
pub find_entry-requires : goal.find_entry-requires
find_entry-requires c = stamped_room c.args.s.now c.args.i (kind_means c.args.kind) c.requires

pub returns-then-s-e : goal.returns-then-s-e
returns-then-s-e c =
    let a = c.args in
    record { reads = open_past a.s.now a.i (kind_means a.kind) c.requires _ c.in_ok-e.ensures c.if-s-e.true; holds = tt }

pub returns-in_err-e : goal.returns-in_err-e
returns-in_err-e c =
    let a = c.args in
    refuses _ _ c.from_residual.ensures.1 (open_run a.s.now a.i (kind_means a.kind) c.requires ∙ (c.in_err-e.ensures (kind_means a.kind)).reads)

pub returns : goal.returns
returns c =
    let a = c.args in
    open_at a.s.now a.i (kind_means a.kind) c.requires _ c.in_ok-e.ensures c.if-s-e.false
