use Rattle.exports.proofs.motion_kind.Goals as goal

-- `exports::motion_kind` meets its contract. Assumes nothing.
pub returns : goal.returns
returns c = rw c.kind.ensures at c.put_kind.ensures
