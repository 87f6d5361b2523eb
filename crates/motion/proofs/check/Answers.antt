use mathlib.Core.Path.{sym, ap, ◌∙◌}
use Rattle.util.proofs.TryLaws.{passed_on}
use Rattle.nitro.specs.ContainerCode.{kind_means}
use Rattle.nitro.specs.EntryCode.{check_means}
use Rattle.nitro.proofs.ContainerLaws.{stamp_of_lem}
use Rattle.calls.proofs.CallsLaws.{check_unstamped, check_stamped}
use Rattle.motion.proofs.check.Goals as goal

-- `motion::check` meets its contract. Assumes nothing.
pub check_entry-requires : goal.check_entry-requires
check_entry-requires c = (stamp_of_lem c.args.s.now 4 (kind_means c.in_ok-kind.kind) c.in_ok-kind.ensures).0

pub returns-in_err-kind : goal.returns-in_err-kind
returns-in_err-kind c =
    let a = c.args in
    ap check_means (passed_on _ _ c.from_residual.ensures.1) ∙ sym (check_unstamped a.s.now a.entry _ c.in_err-kind.ensures)

pub returns : goal.returns
returns c =
    let a = c.args in
    c.check_entry.ensures ∙ sym (check_stamped a.s.now a.entry (kind_means c.in_ok-kind.kind) c.in_ok-kind.ensures)
