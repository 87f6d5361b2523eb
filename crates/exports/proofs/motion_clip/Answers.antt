use Rattle.words.proofs.WordsLaws.{written_as}
use Rattle.exports.proofs.motion_clip.Goals as goal

-- `exports::motion_clip` meets its contract. Assumes nothing.
pub returns : goal.returns
returns c = let q = c.clip.ensures in (written_as q.0 (c.put_objects.ensures _), q.1)
