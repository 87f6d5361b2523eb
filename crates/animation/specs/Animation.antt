-- A JNT0 entry. Positions and offsets count from the entry. Assumes nothing.
use Rattle.std.specs.Prelude.{ℕ, ◌+◌, ◌-◌, ◌*◌, ◌/◌, ◌^◌, Bool, true, false, not, cond, List, [], ◌∷◌, ltb, leb, eqb, Float, get_or}
use Rattle.util.specs.View.{little, word_at, same}
use Rattle.util.specs.Reader.{Reader, done, part, ◌>>=◌, ◌>>◌, bytes, word, list, each, unless, Verdict, given}
use Rattle.util.specs.Bits.{bits, bit}
use Rattle.util.specs.Fixed.{Fix, fix1_19_12, fix1_3_12, fixed}
use Rattle.matrix.specs.declared.Col3.{Col3}
use Rattle.matrix.specs.declared.Mat3.{Mat3}
use Rattle.matrix.specs.declared.Mat4.{Mat4}
use Rattle.matrix.specs.Matrix.{f0, f1, col3, identity3, trs}
use Rattle.rotation.specs.Rotation.{pivot_mat, basis_mat}
use Rattle.curve.specs.Curve.{left_over, ListRecord, Curve, none, constant, samples, sample_count, number_bytes, number_of, Pair, pair_of, firsts, mix, mix_mat, sample_at}

-- the curves of the three axes
pub record PerAxis (A : Type 0) : Type 0 where
  pub x : Curve A
  pub y : Curve A
  pub z : Curve A

-- of numbers, as they are sampled
abbrev pub Axes : Type 0
Axes = PerAxis Float

-- a scale's curves are of pairs
pub record Object : Type 0 where
  pub translation : Axes
  pub rotation : Curve Mat3
  pub scale : PerAxis Pair

pub record Animation : Type 0 where
  pub frames : ℕ
  pub objects : List Object

abbrev pub no_axes : {A : Type 0} → PerAxis A
no_axes = record { x = none; y = none; z = none }

-- an object that nothing animates
abbrev pub still_object : Object
still_object = record { translation = no_axes; rotation = none; scale = no_axes }

-- how many values the lists of its seven curves have
abbrev pub axes_samples : {A : Type 0} → PerAxis A → ℕ
axes_samples a = sample_count a.x + sample_count a.y + sample_count a.z

abbrev pub object_samples : Object → ℕ
object_samples o = axes_samples o.translation + sample_count o.rotation + axes_samples o.scale

-- more than this many objects are refused
abbrev pub most_objects : ℕ
most_objects = 999

-- f of the curve of axis 0, 1 or 2; 9 past them
abbrev pub on_axis : {A B : Type 0} → PerAxis A → ℕ → (Curve A → Verdict B) → Verdict B
on_axis a axis f = given (ltb axis 3) 9 (f (get_or (a.x ∷ a.y ∷ a.z ∷ []) axis none))

-- ---- an object's two triples of curves: what is said of one is said of both

pub data Triple : Type 0 where
  translation scale : Triple

-- what one value is: a number, or a pair
abbrev pub Value : Triple → Type 0
Value translation = Float
Value scale = Pair

abbrev pub axes_of : (t : Triple) → Object → PerAxis (Value t)
axes_of translation o = o.translation
axes_of scale o = o.scale

-- what is sampled of a scale: the first number of each pair
abbrev pub first_numbers : PerAxis Pair → Axes
first_numbers a = record { x = firsts a.x; y = firsts a.y; z = firsts a.z }

abbrev pub sampled_of : (t : Triple) → PerAxis (Value t) → Axes
sampled_of translation a = a
sampled_of scale a = first_numbers a

-- where a curve is missing
abbrev pub default_of : Triple → Float
default_of translation = f0
default_of scale = f1

-- how many numbers a value has, and the value that its bytes give
abbrev pub numbers_of : Triple → ℕ
numbers_of translation = 1
numbers_of scale = 2

abbrev pub value_from : (t : Triple) → Fix → List ℕ → Value t
value_from translation f bs = number_of f bs
value_from scale f bs = pair_of f bs

-- the first of the two flag bits that leave the triple out, where one of them is set
abbrev pub left_out_bit : Triple → ℕ
left_out_bit translation = 1
left_out_bit scale = 9

-- the flag bit that makes x constant; those of y and z follow
abbrev pub constant_bit : Triple → ℕ
constant_bit translation = 3
constant_bit scale = 11

-- ---- curve words

abbrev pub start_of : ℕ → ℕ
start_of w = bits w 0 16

abbrev pub end_of : ℕ → ℕ
end_of w = bits w 16 28

abbrev pub width_of : ℕ → ℕ
width_of w = bits w 28 30

abbrev pub rate_of : ℕ → ℕ
rate_of w = bits w 30 32

-- how many values the list has: end - start, shifted right by the rate
abbrev pub values_of : ℕ → ℕ
values_of w = (end_of w - start_of w) / 2 ^ rate_of w

-- the list of a curve word, at a place, with values of `size` bytes
abbrev pub list_of : ℕ → ℕ → ℕ → ListRecord
list_of w place size = record { start = start_of w; end = end_of w; place = place; size = size; rate = rate_of w; rest = left_over (end_of w - start_of w) (rate_of w) }

-- the curve word at p: start < end is tested before more is read
unfoldable pub curve_word : ℕ → Reader ℕ
curve_word p = do
  w ← word p 4
  unless (ltb (start_of w) (end_of w)) 7
  done w

-- the fields of a list: its curve word and its offset
unfoldable pub list_fields : ℕ → Reader (ℕ × ℕ)
list_fields p = do
  w ← curve_word p
  off ← word (p + 4) 4
  done (w, off)

-- ---- translation and scale

-- 1.19.12 for width 0, else 1.3.12
abbrev pub format_of : ℕ → Fix
format_of width = cond (eqb width 0) fix1_19_12 fix1_3_12

-- the bytes of a value
abbrev pub value_size : Triple → ℕ → ℕ
value_size t w = number_bytes (format_of (width_of w)) * numbers_of t

-- the list of a curve word at its offset, and where the next field stands
unfoldable pub scalar_list : (t : Triple) → ℕ → ℕ → ℕ → Reader (Curve (Value t) × ℕ)
scalar_list t w off next = do
  values ← list off (value_size t w) (value_from t (format_of (width_of w))) (values_of w)
  done (samples (list_of w off (value_size t w)) values, next)

-- a scalar curve whose fields stand at p, and where the next field stands
unfoldable pub scalar : (t : Triple) → Bool → ℕ → Reader (Curve (Value t) × ℕ)
scalar t true p = do
  bs ← bytes p (4 * numbers_of t)
  done (constant (value_from t fix1_19_12 bs), p + 4 * numbers_of t)
scalar t false p = do
  (w, off) ← list_fields p
  scalar_list t w off (p + 8)

-- axis i of a triple
abbrev pub axis : (t : Triple) → ℕ → ℕ → ℕ → Reader (Curve (Value t) × ℕ)
axis t flags i p = scalar t (bit flags (constant_bit t + i)) p

-- the axes x, y, z in order
unfoldable pub axes : (t : Triple) → ℕ → ℕ → Reader (PerAxis (Value t) × ℕ)
axes t flags p = do
  (x, py) ← axis t flags 0 p
  (y, pz) ← axis t flags 1 py
  (z, end) ← axis t flags 2 pz
  done (record { x = x; y = y; z = z }, end)

-- .. unless the flags leave them out
unfoldable pub animated_axes : (t : Triple) → ℕ → ℕ → Reader (PerAxis (Value t) × ℕ)
animated_axes t flags p = cond (eqb (bits flags (left_out_bit t) (left_out_bit t + 2)) 0) (axes t flags p) (done (no_axes, p))

-- ---- rotation

-- three u16: select bits 0..3 and neg bits 4..7; a; b, as 1.3.12
unfoldable pub pivot_of : List ℕ → Mat3
pivot_of bs = pivot_mat (bits (word_at 2 bs 0) 0 4) (bits (word_at 2 bs 0) 4 8) (fixed fix1_3_12 (word_at 2 bs 2)) (fixed fix1_3_12 (word_at 2 bs 4))

-- five u16
unfoldable pub basis_of : List ℕ → Mat3
basis_of bs = basis_mat (word_at 2 bs 0) (word_at 2 bs 2) (word_at 2 bs 4) (word_at 2 bs 6) (word_at 2 bs 8)

-- a record of the pivot or the basis data: where it stands, its bytes, and the matrix that they give
pub record Referred : Type 0 where
  pub place : ℕ
  pub size : ℕ
  pub gives : List ℕ → Mat3

abbrev pub pivot_record : ℕ → Referred
pivot_record place = record { place = place; size = 6; gives = pivot_of }

abbrev pub basis_record : ℕ → Referred
basis_record place = record { place = place; size = 10; gives = basis_of }

-- the pivot and the basis data stand at these places
module _ (pivot basis : ℕ) where
  -- what a u16 refers to: bit 15 set, record number bits 0..14 of the pivot data; clear, of the basis data
  unfoldable pub referred : ℕ → Referred
  referred x = cond (bit x 15) (pivot_record (pivot + 6 * bits x 0 15)) (basis_record (basis + 10 * bits x 0 15))

  unfoldable pub reference : ℕ → Reader Mat3
  reference x = part (referred x).place (referred x).size (λ bs. done ((referred x).gives bs))

  -- the list of a curve word at its offset, and where the next field stands: it is read before its references are followed in order
  unfoldable pub rotation_list : ℕ → ℕ → ℕ → Reader (Curve Mat3 × ℕ)
  rotation_list w off next = do
    xs ← list off 2 little (values_of w)
    ms ← each reference xs
    done (samples (list_of w off 2) ms, next)

  -- the rotation whose fields stand at p, and where the next field stands
  unfoldable pub rotation : Bool → ℕ → Reader (Curve Mat3 × ℕ)
  rotation true p = do
    x ← word p 2
    word (p + 2) 2
    m ← reference x
    done (constant m, p + 4)
  rotation false p = do
    (w, off) ← list_fields p
    rotation_list w off (p + 8)

  -- flag bits 6..7 leave it out where one is set, bit 8 makes it constant
  unfoldable pub animated_rotation : ℕ → ℕ → Reader (Curve Mat3 × ℕ)
  animated_rotation flags p = cond (eqb (bits flags 6 8) 0) (rotation (bit flags 8) p) (done (none, p))

  -- ---- objects

  -- an object whose flags have bit 0 clear, and its fields from p on
  unfoldable pub animated : ℕ → ℕ → Reader Object
  animated flags p = do
    (trans, p₁) ← animated_axes translation flags p
    (rot, p₂) ← animated_rotation flags p₁
    (size, p₃) ← animated_axes scale flags p₂
    done (record { translation = trans; rotation = rot; scale = size })

  unfoldable pub object : ℕ → Reader Object
  object p = do
    flags ← word p 2
    bytes (p + 2) 2
    cond (bit flags 0) (done still_object) (animated flags (p + 4))

-- ---- the entry

abbrev pub animation_stamp : List ℕ
animation_stamp = 0x4A ∷ 0x00 ∷ 0x41 ∷ 0x43 ∷ []

unfoldable pub animation : Reader Animation
animation = do
  stamp ← bytes 0 4
  frames ← word 4 2
  objects ← word 6 2
  word 8 4
  pivot ← word 12 4
  basis ← word 16 4
  offsets ← list 20 2 little objects
  unless (same 4 stamp animation_stamp) 5
  unless (not (eqb frames 0)) 6
  unless (leb objects most_objects) 12
  os ← each (object pivot basis) offsets
  done (record { frames = frames; objects = os })

-- ---- TRSCurves::sample_at

-- the values of three curves at a frame
unfoldable pub axes_at : Float → Axes → ℕ → Col3
axes_at default a frame = col3 (sample_at mix default a.x frame) (sample_at mix default a.y frame) (sample_at mix default a.z frame)

-- (translation · rotation) · scale, with the defaults 0, identity and 1; of a scale the first numbers
unfoldable pub matrix_at : Object → ℕ → Mat4
matrix_at o frame = trs (axes_at f0 o.translation frame) (sample_at mix_mat identity3 o.rotation frame) (axes_at f1 (first_numbers o.scale) frame)
