use lib.Ieee.{of_bits}
use Rattle.matrix.proofs.from_rotation.Goals as goal

-- `matrix::from_rotation` meets its contract. Assumes nothing.
pub returns : goal.returns
unfolding of_bits
returns c = cc
