use Rattle.exports.proofs.motion_keys.Goals as goal

-- `exports::motion_keys` meets its contract. Assumes nothing.
pub returns : goal.returns
returns c = rw c.keys.ensures.answers at c.put_list.ensures
