-- A value mixed with itself at +0 is that value. Assumes nothing.
use Prim.Native.Nat.{ℕ, ◌^◌, ◌≤◌}
use mathlib.Core.List.{List}
use mathlib.Core.Path.{◌≡◌, refl, ap, ◌∙◌}
use lib.Dec.{T, lit≤}
use lib.Ieee.{Float, fin, binary64, add, sub, mul, fits, nan, inf}
use Rattle.util.specs.Fixed.{width}
use Rattle.util.specs.Within.{Within}
use Rattle.util.proofs.BelowLaws.{Small}
use Rattle.util.proofs.ExactLaws.{times_one, times_zero, plus_zero}
use Rattle.matrix.specs.declared.Col3.{Col3}
use Rattle.matrix.specs.declared.Mat3.{Mat3}
use Rattle.matrix.specs.Matrix.{f0, f1}
use Rattle.matrix.proofs.MagnitudeLaws.{Three, Nine}
use Rattle.curve.specs.declared.Number.{Number}
use Rattle.curve.specs.declared.Number.TheVariants.{Fix1_19_12, Fix1_3_12, Fix1_10_5}
use Rattle.curve.specs.Curve.{number_of, mix, mix_col, mix_mat}
use Rattle.curve.specs.CurveCode.{format_means}
use Rattle.curve.proofs.MagnitudeLaws.{number_small}

-- x·1 is x, x·0 a zero of x's sign, and x plus that is x: also where x is -0
pub mix_same : (x : Float) → Small x → mix x x f0 ≡ x
mix_same x h = unfold mix in ap (λ (y : Float). add binary64 (mul binary64 x y) (mul binary64 x f0)) one ∙ go x h.held h.within
  where
    one : sub binary64 f1 f0 ≡ f1
    one = unfold sub in refl

    go : (x : Float) → T (fits binary64 x) → Within x (2 ^ 65) → add binary64 (mul binary64 x f1) (mul binary64 x f0) ≡ x
    go nan h w = elim w [ ]
    go (inf _) h w = elim w [ ]
    go (fin s m e) h w = rw (times_one s m e h, times_zero s m e) (plus_zero s m e h)

-- a stored number
pub number_same : (number : Number) (bs : List ℕ) (r : Float) → r ≡ number_of (format_means number) bs → mix r r f0 ≡ r
number_same number bs r e = mix_same r (rw e (number_small (format_means number) (narrow number) bs))
  where
    narrow : (number : Number) → width (format_means number) ≤ 32
    narrow Fix1_19_12 = lit≤ tt
    narrow Fix1_3_12 = lit≤ tt
    narrow Fix1_10_5 = lit≤ tt

mix_col_same : (c : Col3) → Three Small c → mix_col c c f0 ≡ c
mix_col_same c h = rw (mix_same c.x h.x, mix_same c.y h.y, mix_same c.z h.z) refl

pub mix_mat_same : (m : Mat3) → Nine Small m → mix_mat m m f0 ≡ m
unfolding mix_mat
mix_mat_same m h = rw (mix_col_same m.c0 h.c0, mix_col_same m.c1 h.c1, mix_col_same m.c2 h.c2) refl
