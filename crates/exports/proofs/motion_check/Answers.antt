use mathlib.Core.Path.{sym, ap, ◌∙◌}
use Rattle.util.specs.Reader.{Outcome, told, number}
use Rattle.nitro.specs.Container.{EntryRecord}
use Rattle.nitro.specs.EntryCode.{check_means}
use Rattle.exports.proofs.motion_check.Goals as goal

-- `exports::motion_check` meets its contract. Assumes nothing.
pub returns-in-Err : goal.returns-in-Err
returns-in-Err c = c.into.ensures ∙ ap (λ (x : Outcome EntryRecord). number (told x)) (ap check_means (sym c.in-Err.is) ∙ c.check.ensures)

pub returns-in-Ok : goal.returns-in-Ok
returns-in-Ok c = ap (λ (x : Outcome EntryRecord). number (told x)) (ap check_means (sym c.in-Ok.is) ∙ c.check.ensures)
