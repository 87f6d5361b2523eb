use Rattle.exports.proofs.motion_material.Goals as goal

-- `exports::motion_material` meets its contract. Assumes nothing.
pub returns : goal.returns
returns c = rw c.material.ensures at c.put_material.ensures
