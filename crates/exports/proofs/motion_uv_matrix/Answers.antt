use Rattle.exports.proofs.motion_uv_matrix.Goals as goal

-- `exports::motion_uv_matrix` meets its contract. Assumes nothing.
pub returns : goal.returns
returns c = rw c.uv_matrix.ensures at c.put_sixteen.ensures
