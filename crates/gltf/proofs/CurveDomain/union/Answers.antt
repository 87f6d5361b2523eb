use Rattle.gltf.proofs.FrameLaws.{union_one, union_two}
use mathlib.Core.Path.{refl, ap}
use Rattle.gltf.specs.Curve.{union}
use Rattle.gltf.specs.CurveCode.{domain_means}
use Rattle.gltf.proofs.CurveDomain.union.Goals as goal

-- `gltf::CurveDomain::union` meets its contract. Assumes nothing.
pub returns-in-None : goal.returns-in-None
unfolding union
returns-in-None c = rw c.in-None.is refl

pub returns-in-None-other : goal.returns-in-None-other
returns-in-None-other c = union_one _ _ _ _ _ (ap domain_means c.in-Sampled.is) (ap domain_means c.in-None-other.is)

pub returns-in-Sampled-other : goal.returns-in-Sampled-other
returns-in-Sampled-other c = union_two _ _ _ _ _ _ _ _ _ _ _ (ap domain_means c.in-Sampled.is) (ap domain_means c.in-Sampled-other.is) c.min.ensures c.max.ensures c.min-in-Sampled-other.ensures
