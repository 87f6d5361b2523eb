use Rattle.nitro.proofs.entry.read_value.Goals as goal

-- `nitro::entry::read_value` meets its contract. Assumes nothing.
pub returns-in-Jnt : goal.returns-in-Jnt
returns-in-Jnt c = rw c.in-Jnt.is c.read_held.ensures

pub returns-in-Srt : goal.returns-in-Srt
returns-in-Srt c = rw c.in-Srt.is c.read_held-in-Srt.ensures

pub returns-in-Pat : goal.returns-in-Pat
returns-in-Pat c = rw c.in-Pat.is c.read_held-in-Pat.ensures
