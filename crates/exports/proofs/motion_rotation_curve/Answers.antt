use Rattle.exports.proofs.motion_rotation_curve.Goals as goal

-- `exports::motion_rotation_curve` meets its contract. Assumes nothing.
pub returns : goal.returns
returns c = rw c.rotation_curve.ensures at c.put_curve.ensures
