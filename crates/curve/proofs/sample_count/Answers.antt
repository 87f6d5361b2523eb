use Prim.Native.Nat.{ℕ}
use mathlib.Core.List.{List}
use mathlib.Core.Path.{◌≡◌, sym, ap, ◌∙◌}
use Rattle.curve.specs.declared.ScalarCurve.{ScalarCurve}
use Rattle.curve.specs.Curve.{sample_count, number_of}
use Rattle.curve.specs.CurveCode.{scalar_curve}
use Rattle.curve.proofs.SampleLaws.{value_count}
use Rattle.curve.proofs.sample_count.Goals as goal

-- `curve::sample_count` meets its contract. Assumes nothing.
-- the count of a curve whose case is known
known : (s : List ℕ) (x y : ScalarCurve) → x ≡ y → sample_count (scalar_curve s y) ≡ sample_count (scalar_curve s x)
known s x y e = sym (ap (λ (z : ScalarCurve). sample_count (scalar_curve s z)) e)

pub returns-in-None : goal.returns-in-None
returns-in-None c = λ s. known s _ _ c.in-None.is

pub returns-in-Constant : goal.returns-in-Constant
returns-in-Constant c = λ s. known s _ _ c.in-Constant.is

pub returns-in-Samples : goal.returns-in-Samples
returns-in-Samples c = λ s. sym (value_count number_of s c.in-Samples.l c.in-Samples.field-1) ∙ known s _ _ c.in-Samples.is
