-- No resampled value is a NaN or an infinity. Assumes nothing.
use Prim.Native.Nat.{ℕ}
use mathlib.Core.List.{List, [], ◌∷◌}
use lib.Ieee.{Float}
use Rattle.util.proofs.All.{Each}
use Rattle.animation.specs.Animation.{Axes}
use Rattle.matrix.specs.Finite.{Finite}
use Rattle.util.proofs.BelowLaws.{Small}
use Rattle.matrix.proofs.MagnitudeLaws.{below_finite}
use Rattle.animation.proofs.FiniteLaws.{SizedAxes, axes_sized}
use Rattle.gltf.specs.Curve.{frames_of, axes_domain, sample_axes, resample_vec3}

-- for a default of 0 or 1, below_zero or below_one is its p
module _ (default : Float) (p : Small default) (a : Axes) (h : SizedAxes Small a) where
  samples_finite : (frames : List ℕ) → Each Finite (sample_axes default a frames)
  unfolding sample_axes
  samples_finite [] = tt
  samples_finite (f ∷ fs) = let v = axes_sized default p a h f in (below_finite v.x, (below_finite v.y, (below_finite v.z, samples_finite fs)))

  pub resample_finite : Each Finite (resample_vec3 default a)
  unfolding resample_vec3
  resample_finite = samples_finite (frames_of (axes_domain a))
