-- What the enums of gltf's code stand for. Assumes nothing.
use Rattle.std.specs.Prelude.{◌≤◌, ◌<◌, List, Float, Result, Option, Some, None}
use Rattle.util.specs.declared.refusal.Refusal.{Refusal}
use Rattle.util.specs.Reader.{Verdict}
use Rattle.util.specs.ReaderCode.{verdict}
use Rattle.gltf.specs.declared.CurveDomain.{CurveDomain}
use Rattle.gltf.specs.declared.CurveDomain.TheVariants.{None as NoDomain, Sampled}
use Rattle.gltf.specs.declared.Frames.{Frames as CodeFrames}
use Rattle.gltf.specs.Curve.{Domain, no_domain, over, no_span, span, Resampled}

abbrev pub domain_means : CurveDomain → Domain
domain_means NoDomain = no_domain
domain_means (Sampled start end rate) = over start end rate

-- a domain whose frames can be stepped through
abbrev pub Stepped : Domain → Type 0
Stepped no_domain = Unit {0}
Stepped (over start end rate) = (start < end) × (1 ≤ rate)

-- what was resampled, with the slice as it was left; three missing curves have no frames
abbrev pub frames_means : List Float → Option CodeFrames → Resampled
frames_means slice (Some f) = record { over = span f.start_frame f.end_frame; frames = f.frames; slice = slice }
frames_means slice None = record { over = no_span; frames = 0; slice = slice }

abbrev pub resampling_means : Result (Option CodeFrames) Refusal → List Float → Verdict Resampled
resampling_means x slice = verdict (frames_means slice) x
