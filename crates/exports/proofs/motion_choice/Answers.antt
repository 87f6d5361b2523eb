use Rattle.exports.proofs.motion_choice.Goals as goal

-- `exports::motion_choice` meets its contract. Assumes nothing.
pub returns : goal.returns
returns c = rw c.choice.ensures at c.put_choice.ensures
