use mathlib.Core.Path.{refl}
use lib.Ieee.{of_bits}
use Rattle.animation.specs.Animation.{matrix_at}
use Rattle.animation.proofs.ObjectLaws.{first_of_axes}
use Rattle.trs.proofs.sample_at.Goals as goal

-- `trs::sample_at` meets its contract. Assumes nothing.
-- the scale is sampled by its first numbers
pub returns : goal.returns
unfolding matrix_at of_bits
returns c =
    let a = c.args in
    rw (c.trs.ensures, c.sample_axes-2.ensures, c.sample_rotation.ensures, c.sample_axes.ensures, first_of_axes a.s.now a.c.scale) refl
