use Rattle.words.proofs.WordsLaws.{written_as}
use Rattle.exports.proofs.motion_resample_translation.Goals as goal

-- `exports::motion_resample_translation` meets its contract. Assumes nothing.
pub returns : goal.returns
returns c = let q = c.resample.ensures in (written_as q.0 (c.put_resampling.ensures _), q.1)
