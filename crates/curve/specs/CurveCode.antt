-- What the structs of curve's code stand for. Assumes nothing.
use Rattle.std.specs.Prelude.{ℕ, ◌+◌, ◌-◌, ◌*◌, ◌≤◌, ◌<◌, cond, List, ◌≡◌, leb, Float, length, drop, get_or}
use Rattle.std.specs.Float.{binary64}
use Rattle.std.specs.Float.Ieee.{sub}
use Rattle.util.specs.View.{view}
use Rattle.util.specs.Fixed.{Fix, fix1_19_12, fix1_3_12, fix1_10_5}
use Rattle.matrix.specs.Matrix.{f0}
use Rattle.curve.specs.declared.Spot.{Spot}
use Rattle.curve.specs.declared.Number.{Number}
use Rattle.curve.specs.declared.Number.TheVariants.{Fix1_19_12, Fix1_3_12, Fix1_10_5}
use Rattle.curve.specs.declared.SampleList.{SampleList}
use Rattle.curve.specs.declared.ListRecord.{ListRecord as CodeRecord}
use Rattle.curve.specs.declared.ScalarCurve.{ScalarCurve}
use Rattle.curve.specs.declared.ScalarCurve.TheVariants.{None, Constant, Samples}
use Rattle.curve.specs.declared.CurveRecord.{CurveRecord}
use Rattle.curve.specs.declared.Pair.{Pair as CodePair}
use Rattle.curve.specs.Curve.{left_over, ListRecord, Curve, none, constant, samples, number_bytes, number_of, Pair, pair_of, floor, ceil, of_whole, index, Recorded, no_curve, always, listed}

-- the places around i
abbrev pub spot_at : Float → Spot
spot_at i = record { lo = floor i; hi = ceil i; g = sub binary64 i (of_whole (floor i)) }

-- value k itself
abbrev pub on_value : ℕ → Spot
on_value k = record { lo = k; hi = k; g = f0 }

-- in a list: up to start the first value, from end - 1 the last, else the places around the frame's index
abbrev pub spot_of : SampleList → ℕ → Spot
spot_of l frame =
    cond (leb frame l.start) (on_value 0)
    (cond (leb (l.end - 1) frame) (on_value (l.length - 1)) (spot_at (index l.start l.end frame l.length)))

-- that spot: both places are in the list, and where they are one, the frame falls on it
pub record SpotIn (l : SampleList) (frame : ℕ) (p : Spot) : Type 0 where
  pub is : p ≡ spot_of l frame
  pub first : p.lo < l.length
  pub second : p.hi < l.length
  pub exact : p.lo ≡ p.hi → p.g ≡ f0

abbrev pub format_means : Number → Fix
format_means Fix1_19_12 = fix1_19_12
format_means Fix1_3_12 = fix1_3_12
format_means Fix1_10_5 = fix1_10_5

abbrev pub list_record_means : CodeRecord → ListRecord
list_record_means r = let l = r.list in record { start = l.start; end = l.end; place = l.place; size = l.size; rate = l.rate; rest = r.rest }

-- of a list the code keeps the rate, and the rest follows
abbrev pub list_means : SampleList → ListRecord
list_means l = list_record_means (record { list = l; rest = left_over (l.end - l.start) l.rate })

-- a list whose frames run forward, at a rate of two bits
pub record Framed (l : SampleList) : Type 0 where
  pub ordered : l.start ≤ l.end
  pub rated : l.rate ≤ 3

-- `value` gives a value of its format and its bytes
module _ {A : Type 0} (value : Fix → List ℕ → A) where
  -- the values of a list that stands in the section
  abbrev pub values_in : List ℕ → SampleList → Number → List A
  values_in s l number = view l.size (value (format_means number)) l.length (drop l.place s)

  -- a constant is a value of 1.19.12 at its place
  abbrev pub curve_in : List ℕ → ScalarCurve → Curve A
  curve_in s None = none
  curve_in s (Constant place) = constant (value fix1_19_12 (drop place s))
  curve_in s (Samples l number) = samples (list_means l) (values_in s l number)

-- of numbers, the first of each value
abbrev pub scalar_curve : List ℕ → ScalarCurve → Curve Float
scalar_curve s c = curve_in number_of s c

-- of pairs
abbrev pub pair_curve : List ℕ → ScalarCurve → Curve Pair
pair_curve s c = curve_in pair_of s c

-- a list whose values stand in the section
pub record InsideList (s : List ℕ) (l : SampleList) (number : Number) : Type 0 where
  pub ends : l.place + l.size * l.length ≤ length s
  pub framed : Framed l
  pub frames : l.length ≤ l.end - l.start
  pub wide : number_bytes (format_means number) ≤ l.size

abbrev pub Inside : List ℕ → ScalarCurve → Type 0
Inside s None = Unit {0}
Inside s (Constant place) = place + 4 ≤ length s
Inside s (Samples l number) = InsideList s l number

-- .. with n numbers for each value
abbrev pub InsideOf : ℕ → List ℕ → ScalarCurve → Type 0
InsideOf n s None = Unit {0}
InsideOf n s (Constant place) = place + 4 * n ≤ length s
InsideOf n s (Samples l number) = InsideList s l number × (number_bytes (format_means number) * n ≤ l.size)

-- `post` allows of each index of a list's n values the one that stands there in `values`, and that is the same when it is mixed with itself
pub record Gives {A : Type 0} (mixed : A → A → Float → A) (post : ℕ → A → Type 0) (n : ℕ) (default : A) (values : List A) : Type 0 where
  pub count : length values ≡ n
  pub there : (k : ℕ) → k < n → (r : A) → post k r → r ≡ get_or values k default
  pub still : (k : ℕ) → k < n → (r : A) → post k r → mixed r r f0 ≡ r

abbrev pub pair_means : CodePair → Pair
pair_means v = record { first = v.first; second = v.second }

-- the struct that stands for a pair
abbrev pub pair_as : Pair → CodePair
pair_as v = record { first = v.first; second = v.second }

module _ {T A : Type 0} where
  -- a curve's record, by the cases of the code's enum: `means` says what its constant stands for
  abbrev pub record_means : (T → A) → CurveRecord T → Recorded A
  record_means means CurveRecord.None = no_curve
  record_means means (CurveRecord.Constant v) = always (means v)
  record_means means (CurveRecord.List r) = listed (list_record_means r) r.list.length
