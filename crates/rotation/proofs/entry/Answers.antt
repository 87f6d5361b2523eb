use mathlib.Core.Path.{refl}
use Rattle.rotation.specs.RotationCode.{digit}
use Rattle.rotation.proofs.entry.Goals as goal

-- `rotation::entry` meets its contract. Assumes nothing.
pub bounds-values-row : goal.bounds-values-row
unfolding digit
bounds-values-row c = c.requires.1

pub returns : goal.returns
unfolding digit
returns c = refl
