use Rattle.exports.proofs.motion_texture_names.Goals as goal

-- `exports::motion_texture_names` meets its contract. Assumes nothing.
pub returns : goal.returns
returns c = rw c.texture_names.ensures at c.put_list.ensures
