use Rattle.exports.proofs.motion_record.Goals as goal

-- `exports::motion_record` meets its contract. Assumes nothing.
pub returns : goal.returns
returns c = rw c.check.ensures at c.put_record.ensures
