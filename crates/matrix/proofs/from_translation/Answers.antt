use lib.Ieee.{of_bits}
use Rattle.matrix.proofs.from_translation.Goals as goal

-- `matrix::from_translation` meets its contract. Assumes nothing.
pub returns : goal.returns
unfolding of_bits
returns c = cc
