use mathlib.Core.Path.{refl}
use Rattle.curve.specs.Curve.{number_of}
use Rattle.curve.proofs.SampleLaws.{value_count}
use Rattle.gltf.specs.Curve.{is_empty}
use Rattle.gltf.proofs.ResampleLaws.{count_empty}
use Rattle.gltf.proofs.is_empty.Goals as goal

-- `gltf::is_empty` meets its contract. Assumes nothing.
pub returns-in-None : goal.returns-in-None
unfolding is_empty
returns-in-None c s = rw c.in-None.is refl

pub returns-in-Constant : goal.returns-in-Constant
unfolding is_empty
returns-in-Constant c s = rw c.in-Constant.is refl

pub returns-in-Samples : goal.returns-in-Samples
returns-in-Samples c s = rw c.in-Samples.is (count_empty _ _ _ (value_count number_of s c.in-Samples.l c.in-Samples.field-1))
