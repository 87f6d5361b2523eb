use mathlib.Core.Path.{sym, ◌∙◌, refl}
use Rattle.rotation.specs.Rotation.{turned}
use Rattle.rotation.proofs.turn.Goals as goal

-- `rotation::turn` meets its contract. Assumes nothing.
pub returns-then-bit : goal.returns-then-bit
unfolding turned
returns-then-bit c = rw (sym c.bit.ensures ∙ c.if-bit.true) refl

pub returns-else-bit : goal.returns-else-bit
unfolding turned
returns-else-bit c = rw (sym c.bit.ensures ∙ c.if-bit.false) refl
