use mathlib.Core.Path.{sym, ap, ◌∙◌}
use Rattle.nitro.specs.ContainerCode.{kind_means}
use Rattle.nitro.specs.EntryCode.{check_means}
use Rattle.util.proofs.ReadsLaws.{stops}
use Rattle.util.proofs.TryLaws.{passed_on}
use Rattle.nitro.proofs.entry.check_entry.Goals as goal

-- `nitro::entry::check_entry` meets its contract. Assumes nothing.
pub check_at-requires : goal.check_at-requires
check_at-requires c = c.in_ok-e.ensures

pub returns-in_err-e : goal.returns-in_err-e
returns-in_err-e c =
    ap check_means (passed_on _ _ c.from_residual.ensures.1) ∙ sym (stops _ _ _ _ _ (c.in_err-e.ensures (kind_means c.args.kind)).reads)
