-- Curves, and what they give at a frame. Assumes nothing.
use Rattle.std.specs.Prelude.{ℕ, ◌+◌, ◌-◌, ◌*◌, ◌/◌, ◌%◌, ◌^◌, ◌≤◌, ◌<◌, cond, List, [], ◌∷◌, map, ◌≡◌, leb, ltb, eqb, pos, length, drop, get_or, Float}
use Rattle.std.specs.Float.{binary64}
use Rattle.std.specs.Float.Ieee.{add, sub, mul, div, of_int}
use Rattle.std.specs.Float.Ieee.Positive.{num, den}
use Rattle.matrix.specs.declared.Col3.{Col3}
use Rattle.matrix.specs.declared.Mat3.{Mat3}
use Rattle.util.specs.View.{word_at}
use Rattle.util.specs.Reader.{Verdict, answered, given}
use Rattle.util.specs.Fixed.{Fix, width, fixed}
use Rattle.matrix.specs.Matrix.{f0, f1, col3}

-- the frames that a rate leaves over of so many
abbrev pub left_over : (frames rate : ℕ) → ℕ
left_over frames rate = frames % 2 ^ rate

-- of a list: its start and end frame, where it stands, the bytes per value, the stored rate, and the rest: the frames that the rate leaves over
pub record ListRecord : Type 0 where
  pub start : ℕ
  pub end : ℕ
  pub place : ℕ
  pub size : ℕ
  pub rate : ℕ
  pub rest : ℕ

-- its frames are 2 to the rate for each of its n values, and the rest, which is too short for one more
pub record FramesTold (l : ListRecord) (n : ℕ) : Type 0 where
  pub ordered : l.start ≤ l.end
  pub frames : l.end - l.start ≡ n * 2 ^ l.rate + l.rest
  pub below : l.rest < 2 ^ l.rate

-- the same list, its place counted from b bytes before
abbrev pub counted_from : ℕ → ListRecord → ListRecord
counted_from b l = record { start = l.start; end = l.end; place = b + l.place; size = l.size; rate = l.rate; rest = l.rest }

-- none, a constant, or a list with its values
pub data Curve (A : Type 0) : Type 0 where
  none : Curve A
  constant : A → Curve A
  samples : ListRecord → List A → Curve A

-- how many values its list has; a constant is no list
abbrev pub sample_count : {A : Type 0} → Curve A → ℕ
sample_count none = 0
sample_count (constant v) = 0
sample_count (samples l vs) = length vs

-- the values that it stores; a constant is one
abbrev pub stored : {A : Type 0} → Curve A → List A
stored none = []
stored (constant v) = v ∷ []
stored (samples l vs) = vs

-- the same curve, of what f gives for each value
abbrev pub mapped : {A B : Type 0} → (A → B) → Curve A → Curve B
mapped f none = none
mapped f (constant v) = constant (f v)
mapped f (samples l vs) = samples l (map f vs)

-- ---- numbers

-- the bytes of a number
abbrev pub number_bytes : Fix → ℕ
number_bytes f = width f / 8

-- the first number of a value's bytes
abbrev pub number_of : Fix → List ℕ → Float
number_of f bs = fixed f (word_at (number_bytes f) bs 0)

-- one value of a scale: two numbers, of which the first is sampled
pub record Pair : Type 0 where
  pub first : Float
  pub second : Float

-- the pair of a value's bytes: the second number stands behind the first, in the same format
abbrev pub pair_of : Fix → List ℕ → Pair
pair_of f bs = record { first = number_of f bs; second = number_of f (drop (number_bytes f) bs) }

-- the first numbers of a curve of pairs
abbrev pub firsts : Curve Pair → Curve Float
firsts c = mapped (λ v. v.first) c

-- the pair at index i of those that a curve stores; 9 past them
abbrev pub pair_at : Curve Pair → ℕ → Verdict Pair
pair_at c i = given (ltb i (length (stored c))) 9 (answered (get_or (stored c) i (record { first = f0; second = f0 })))

-- ---- the whole numbers below and above a float that has no sign (num / den is its value)

unfoldable pub floor : Float → ℕ
floor x = num x / den x

-- the same, if x is whole
unfoldable pub ceil : Float → ℕ
ceil x = num x / den x + cond (eqb (num x % den x) 0) 0 1

-- ---- the place between two values

abbrev pub of_whole : ℕ → Float
of_whole n = of_int binary64 (pos n)

-- i: the fraction f = (frame - start) / (end - 1 - start), rounded, times n - 1, rounded again
unfoldable pub index : ℕ → ℕ → ℕ → ℕ → Float
index start end frame n = mul binary64 (div binary64 (of_whole (frame - start)) (of_whole (end - 1 - start))) (of_whole (n - 1))

-- lo·(1 - g) + hi·g
unfoldable pub mix : Float → Float → Float → Float
mix lo hi g = add binary64 (mul binary64 lo (sub binary64 f1 g)) (mul binary64 hi g)

abbrev pub mix_col : Col3 → Col3 → Float → Col3
mix_col lo hi g = col3 (mix lo.x hi.x g) (mix lo.y hi.y g) (mix lo.z hi.z g)

-- entry by entry
unfoldable pub mix_mat : Mat3 → Mat3 → Float → Mat3
mix_mat lo hi g = record { c0 = mix_col lo.c0 hi.c0 g; c1 = mix_col lo.c1 hi.c1 g; c2 = mix_col lo.c2 hi.c2 g }

-- ---- Curve::sample_at, for what can be mixed

module _ {A : Type 0} (mixed : A → A → Float → A) where
  -- between the values next to i: lo below it, hi above it, and g = i - lo
  unfoldable pub between : A → List A → Float → A
  between default values i = mixed (get_or values (floor i) default) (get_or values (ceil i) default) (sub binary64 i (of_whole (floor i)))

  -- up to start the first value, from end - 1 the last
  unfoldable pub sample_list : A → ListRecord → List A → ℕ → A
  sample_list default l values frame =
      let n = length values in
      cond (leb frame l.start) (get_or values 0 default)
      (cond (leb (l.end - 1) frame) (get_or values (n - 1) default) (between default values (index l.start l.end frame n)))

  -- no curve, or an empty list, gives the default
  unfoldable pub sample_at : A → Curve A → ℕ → A
  sample_at default none frame = default
  sample_at default (constant v) frame = v
  sample_at default (samples l []) frame = default
  sample_at default (samples l (v ∷ vs)) frame = sample_list default l (v ∷ vs) frame

-- ---- the record of a curve: of a constant its value, of a list its record and its length

pub data Recorded (A : Type 0) : Type 0 where
  no_curve : Recorded A
  always : A → Recorded A
  listed : ListRecord → (length : ℕ) → Recorded A

-- where it tells of a list, it tells the list's frames
abbrev pub RecordTells : {A : Type 0} → Recorded A → Type 0
RecordTells no_curve = Unit {0}
RecordTells (always v) = Unit {0}
RecordTells (listed l n) = FramesTold l n

module _ {A : Type 0} where
  -- a curve's place counts from its entry, a record's from the section's start
  unfoldable pub recorded : ℕ → Curve A → Recorded A
  recorded entry none = no_curve
  recorded entry (constant v) = always v
  recorded entry (samples l vs) = listed (counted_from entry l) (length vs)
