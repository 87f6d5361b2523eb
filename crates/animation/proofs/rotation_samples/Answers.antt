use mathlib.Core.Path.{sym}
use Rattle.animation.proofs.RotationLaws.{matrix_count}
use Rattle.animation.proofs.rotation_samples.Goals as goal

-- `animation::rotation_samples` meets its contract. Assumes nothing.
pub returns-in-Samples : goal.returns-in-Samples
returns-in-Samples c t s = rw c.in-Samples.is (sym (matrix_count t s c.in-Samples.l))
