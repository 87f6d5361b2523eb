use Rattle.curve.specs.Curve.{mix_mat}
use Rattle.curve.proofs.Mat3Mix.lerp.Goals as goal

-- `lerp` of `Mat3` meets its contract. Assumes nothing.
pub returns : goal.returns
unfolding mix_mat
returns c = cc
