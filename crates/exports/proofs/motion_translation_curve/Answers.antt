use Rattle.exports.proofs.motion_translation_curve.Goals as goal

-- `exports::motion_translation_curve` meets its contract. Assumes nothing.
pub returns : goal.returns
returns c = rw c.translation_curve.ensures at c.put_curve.ensures
