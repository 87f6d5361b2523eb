use lib.Ieee.{of_bits}
use Rattle.matrix.proofs.from_nonuniform_scale.Goals as goal

-- `matrix::from_nonuniform_scale` meets its contract. Assumes nothing.
pub returns : goal.returns
unfolding of_bits
returns c = cc
