use Rattle.exports.proofs.motion_material_name.Goals as goal

-- `exports::motion_material_name` meets its contract. Assumes nothing.
pub returns : goal.returns
returns c = rw c.track_name.ensures at c.put_name.ensures
