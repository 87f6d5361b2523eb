use Rattle.exports.proofs.motion_scale_curve.Goals as goal

-- `exports::motion_scale_curve` meets its contract. Assumes nothing.
pub returns : goal.returns
returns c = rw c.scale_curve.ensures at c.put_curve.ensures
