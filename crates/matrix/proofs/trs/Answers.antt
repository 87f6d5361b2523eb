use Rattle.matrix.specs.Matrix as spec
use Rattle.matrix.proofs.trs.Goals as goal

-- `matrix::trs` meets its contract. Assumes nothing.
pub returns : goal.returns
unfolding spec.trs
returns c = cc
