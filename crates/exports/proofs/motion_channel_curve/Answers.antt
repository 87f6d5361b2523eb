use Rattle.exports.proofs.motion_channel_curve.Goals as goal

-- `exports::motion_channel_curve` meets its contract. Assumes nothing.
pub returns : goal.returns
returns c = rw c.channel_curve.ensures at c.put_curve.ensures
