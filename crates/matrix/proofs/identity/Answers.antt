use mathlib.Core.Path.{refl}
use lib.Ieee.{of_bits}
use Rattle.matrix.proofs.identity.Goals as goal

-- `matrix::identity` meets its contract. Assumes nothing.
pub returns : goal.returns
unfolding of_bits
returns c = refl
