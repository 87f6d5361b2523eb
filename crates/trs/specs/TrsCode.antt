-- What the code of this crate answers: an object's curves as they stand, and their records. Assumes nothing.
use Rattle.std.specs.Prelude.{ℕ, ◌+◌, ◌*◌, ◌<◌, ◌≤◌, List, [], ◌∷◌, ◌≡◌, get_or, Result, MatchResult}
use Rattle.util.specs.declared.refusal.Refusal.{Refusal}
use Rattle.util.specs.declared.refusal.Refusal.TheVariants.{NoSuchIndex}
use Rattle.util.specs.Fixed.{Fix}
use Rattle.util.specs.View.{word_at}
use Rattle.util.specs.Reader.{accepted, run, Verdict}
use Rattle.util.specs.ReaderCode.{verdict}
use Rattle.matrix.specs.declared.Mat3.{Mat3}
use Rattle.curve.specs.declared.ScalarCurve.{ScalarCurve}
use Rattle.curve.specs.declared.CurveRecord.{CurveRecord}
use Rattle.curve.specs.declared.Pair.{Pair as CodePair}
use Rattle.curve.specs.Curve.{Pair, Recorded}
use Rattle.curve.specs.CurveCode.{curve_in, pair_means, record_means}
use Rattle.animation.specs.declared.TRSCurves.{TRSCurves}
use Rattle.animation.specs.declared.AxisCurves.{AxisCurves}
use Rattle.animation.specs.Animation.{PerAxis, object}
use Rattle.animation.specs.AnimationCode.{tables_at, object_curves, InsideObject}

-- object o of the entry s has these curves
pub record ObjectStands (s : List ℕ) (o : ℕ) (c : TRSCurves) : Type 0 where
  pub reach : ℕ
  pub reads : run (object (word_at 4 s 12) (word_at 4 s 16) (word_at 2 s (20 + 2 * o))) s 0 ≡ accepted reach (object_curves (tables_at s) s c)
  pub inside : InsideObject (tables_at s) s c

-- ---- one of three axes

-- the three curves, of values of any type that are read so: of a triple's values this is `triple_curves`
abbrev pub axes_in : {A : Type 0} → (Fix → List ℕ → A) → List ℕ → AxisCurves → PerAxis A
axes_in value s a = record { x = curve_in value s a.x; y = curve_in value s a.y; z = curve_in value s a.z }

-- the curve of an axis, by its number
abbrev pub AxisIs : AxisCurves → ℕ → Result ScalarCurve Refusal → Type 0
AxisIs a axis x = MatchResult x (λ c. (axis < 3) × (c ≡ get_or (a.x ∷ a.y ∷ a.z ∷ []) axis ScalarCurve.None)) (λ e. (3 ≤ axis) × (e ≡ NoSuchIndex))

-- ---- the records that the calls answer

-- the record of a curve whose constant stands for itself
module _ {A : Type 0} where
  abbrev pub curve_means : Result (CurveRecord A) Refusal → Verdict (Recorded A)
  curve_means x = verdict (record_means (λ v. v)) x

-- .. of a scale, and of a rotation
abbrev pub scale_means : Result (CurveRecord CodePair) Refusal → Verdict (Recorded Pair)
scale_means x = verdict (record_means pair_means) x

abbrev pub rotation_answer_means : Result (CurveRecord Mat3) Refusal → Verdict (Recorded Mat3)
rotation_answer_means x = curve_means x
