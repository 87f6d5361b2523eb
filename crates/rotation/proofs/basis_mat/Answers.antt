use Rattle.rotation.specs.Rotation.{basis_mat}
use Rattle.rotation.proofs.basis_mat.Goals as goal

-- `rotation::basis_mat` meets its contract. Assumes nothing.
pub returns : goal.returns
unfolding basis_mat
returns c = cc
