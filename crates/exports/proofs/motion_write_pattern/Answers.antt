use Rattle.exports.proofs.motion_write_pattern.Goals as goal

-- `exports::motion_write_pattern` meets its contract. Assumes nothing.
pub returns : goal.returns
returns c =
    let w = c.write_pattern.ensures in
    record { count = rw w.answers at c.put_count.ensures; slice = w.slice }
