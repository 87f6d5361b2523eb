use Rattle.exports.proofs.motion_scale_value.Goals as goal

-- `exports::motion_scale_value` meets its contract. Assumes nothing.
pub returns : goal.returns
returns c = rw c.scale_value.ensures at c.put_value.ensures
