use mathlib.Core.Path.{subst}
use lib.Ieee.{of_bits}
use Rattle.animation.specs.declared.Triple.{Triple}
use Rattle.animation.specs.AnimationCode.{curves_of, InsideAxes}
use Rattle.gltf.proofs.resample_triple.Goals as goal

-- `gltf::resample_triple` meets its contract. Assumes nothing.
pub returns-in-Translation : goal.returns-in-Translation
unfolding of_bits
returns-in-Translation c =
    rw c.in-Translation.is c.resample.ensures

pub returns-in-Scale : goal.returns-in-Scale
unfolding of_bits
returns-in-Scale c =
    rw c.in-Scale.is c.resample-in-Scale.ensures
