use Rattle.matrix.specs.Matrix as spec
use Rattle.matrix.proofs.product.Goals as goal

-- `matrix::product` meets its contract. Assumes nothing.
pub returns : goal.returns
unfolding spec.product
returns c = cc
