use Rattle.exports.proofs.motion_find.Goals as goal

-- `exports::motion_find` meets its contract. Assumes nothing.
pub returns : goal.returns
returns c = rw c.find.ensures at c.put_found.ensures
