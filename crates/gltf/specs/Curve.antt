-- Domains of curves, and three curves resampled onto the union of theirs. Assumes nothing.
use Rattle.std.specs.Prelude.{ℕ, zero, suc, ◌+◌, ◌-◌, ◌*◌, ◌/◌, min, max, Bool, true, false, not, ◌||◌, cond, List, [], ◌∷◌, ltb, leb, length, Float}
use Rattle.std.proofs.lemmas.List.Edits.{sets}
use Rattle.util.specs.Reader.{Verdict, answered, denied, given}
use Rattle.curve.specs.Curve.{Curve, none, constant, samples}
use Rattle.animation.specs.Animation.{Axes, axes_at}

-- the frames from start, with `rate` frames from one to the next, below end
pub data Domain : Type 0 where
  no_domain : Domain
  over : (start end rate : ℕ) → Domain

module _ {A : Type 0} where
  -- a constant is a single value at frame 0; a list without values has no domain
  unfoldable pub domain : Curve A → Domain
  domain none = no_domain
  domain (constant v) = over 0 1 1
  domain (samples l []) = no_domain
  domain (samples l (v ∷ vs)) = over l.start l.end ((l.end - l.start) / length (v ∷ vs))

  -- a list without values
  unfoldable pub is_empty : Curve A → Bool
  is_empty none = false
  is_empty (constant v) = false
  is_empty (samples l []) = true
  is_empty (samples l (v ∷ vs)) = false

-- of the domains that exist: least start, greatest end, least rate
unfoldable pub union : Domain → Domain → Domain
union no_domain d = d
union (over s e r) no_domain = over s e r
union (over s₁ e₁ r₁) (over s₂ e₂ r₂) = over (min s₁ s₂) (max e₁ e₂) (min r₁ r₂)

-- f, f + rate, ... below end: at most `steps` of them, which is no bound if there are that many frames from f to end
unfoldable pub frames_from : ℕ → ℕ → ℕ → ℕ → List ℕ
frames_from zero f end rate = []
frames_from (suc steps) f end rate =
    let later = frames_from steps (f + rate) end rate in
    cond (ltb f end) (f ∷ later) []

unfoldable pub frames_of : Domain → List ℕ
frames_of no_domain = []
frames_of (over start end rate) = frames_from (end - start) start end rate

-- ---- resample_vec3

unfoldable pub axes_domain : Axes → Domain
axes_domain a = union (union (domain a.x) (domain a.y)) (domain a.z)

unfoldable pub any_empty : Axes → Bool
any_empty a = is_empty a.x || is_empty a.y || is_empty a.z

-- three floats for each frame: x, y, z
unfoldable pub sample_axes : Float → Axes → List ℕ → List Float
sample_axes default a [] = []
sample_axes default a (f ∷ fs) = let v = axes_at default a f in v.x ∷ v.y ∷ v.z ∷ sample_axes default a fs

unfoldable pub resample_vec3 : Float → Axes → List Float
resample_vec3 default a = sample_axes default a (frames_of (axes_domain a))

-- ---- into a lent slice

-- start and end of what was resampled: none for three missing curves
pub data Span : Type 0 where
  no_span : Span
  span : (start end : ℕ) → Span

-- the answer, and the lent slice with what was written
pub record Resampled : Type 0 where
  pub over : Span
  pub frames : ℕ
  pub slice : List Float

abbrev pub span_of : Domain → Span
span_of no_domain = no_span
span_of (over start end rate) = span start end

-- 10 for an empty list among the three curves, then 11 if place + 3 times the frames exceeds the slice; then three floats per
-- frame from the place on, all other elements as they were
unfoldable pub resample : Float → Axes → List Float → ℕ → Verdict Resampled
resample default a out place =
    given (not (any_empty a)) 10
    (given (leb (place + 3 * length (frames_of (axes_domain a))) (length out)) 11
    (answered (record { over = span_of (axes_domain a); frames = length (frames_of (axes_domain a)); slice = sets out place (resample_vec3 default a) })))

-- what is left in the slice `out`: as it was, where the call refuses
abbrev pub slice_of : List Float → Verdict Resampled → List Float
slice_of out (answered r) = r.slice
slice_of out (denied n) = out
