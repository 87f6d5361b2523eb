use mathlib.Core.Path.{refl}
use Rattle.animation.specs.Animation.{axes_at}
use Rattle.trs.proofs.sample_axes.Goals as goal

-- `trs::sample_axes` meets its contract. Assumes nothing.
pub returns : goal.returns
unfolding axes_at
returns c = rw (c.sample_scalar-3.ensures, c.sample_scalar-2.ensures, c.sample_scalar.ensures) refl
