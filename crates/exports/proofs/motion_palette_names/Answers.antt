use Rattle.exports.proofs.motion_palette_names.Goals as goal

-- `exports::motion_palette_names` meets its contract. Assumes nothing.
pub returns : goal.returns
returns c = rw c.palette_names.ensures at c.put_list.ensures
