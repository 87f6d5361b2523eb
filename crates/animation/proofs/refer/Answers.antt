use mathlib.Core.Bool.{true, false}
use mathlib.Core.Path.{sym, ◌∙◌}
use Rattle.animation.proofs.RotationLaws.{refers}
use Rattle.animation.proofs.refer.Goals as goal

-- `animation::refer` meets its contract. Assumes nothing.
pub returns-then-bit : goal.returns-then-bit
returns-then-bit c = let a = c.args in sym (refers a.t a.x true (sym c.if-bit.true ∙ c.bit.ensures) _ c.bits-number.ensures)

pub returns-else-bit : goal.returns-else-bit
returns-else-bit c = let a = c.args in sym (refers a.t a.x false (sym c.if-bit.false ∙ c.bit.ensures) _ c.bits-number.ensures)
