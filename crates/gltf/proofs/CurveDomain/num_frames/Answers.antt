use mathlib.Core.Path.{ap}
use native.Mathlib.Omega.{arith}
use Rattle.gltf.specs.CurveCode.{domain_means}
use Rattle.gltf.proofs.FrameLaws.{no_frames, frames_count, stepped}
use Rattle.gltf.proofs.CurveDomain.num_frames.Goals as goal

-- `gltf::CurveDomain::num_frames` meets its contract. Assumes nothing.
pub returns-in-None : goal.returns-in-None
returns-in-None c = no_frames _ (ap domain_means c.in-None.is)

pub returns-in-Sampled : goal.returns-in-Sampled
returns-in-Sampled c = rw c.div_ceil.ensures (frames_count _ _ _ _ (ap domain_means c.in-Sampled.is) c.requires (omega arith))
