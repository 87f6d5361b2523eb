-- What an animation's readers give is so large at most that no entry of a matrix is a NaN or an infinity, and so few that all its lists
-- together have fewer than 2^40 values. Assumes nothing.
use Prim.Native.Nat.{ℕ, ◌+◌, ◌*◌, ◌≤◌, ◌<◌}
use mathlib.Core.Bool.{Bool, true, false, cond}
use mathlib.Core.List.{List}
use mathlib.Core.Path.{◌≡◌, refl, ◌∙◌}
use native.Mathlib.Omega.{arith}
use borrow.Author.Tests.{leb-true, ltb-true}
use lib.Dec.{leb, ltb, eqb, lit≤}
use lib.ListN.{length, get_or}
use lib.Ieee.{Float}
use Rattle.util.specs.Bits.{bits, bit}
use Rattle.util.specs.Fixed.{Fix, fix1_19_12, fix1_3_12, width}
use Rattle.util.specs.Reader.{done, accepted, run}
use Rattle.util.specs.ReaderCode.{tally_of}
use Rattle.util.specs.Sums.{total}
use Rattle.util.proofs.All.{Bytes, Each, each_at, each_of, each_map, Many, All, list_all, length_all, unless_all, all_run, all_map, all_cond, all_bind, all_after, all_each}
use Rattle.util.proofs.BelowLaws.{Small, Mixed, below_zero, below_one, small_fixed}
use Rattle.util.proofs.SumsLaws.{entry_bound, total-le, tally_le}
use Rattle.matrix.specs.Finite.{FiniteMat}
use Rattle.matrix.specs.Matrix.{f0, f1, trs}
use Rattle.matrix.proofs.MagnitudeLaws.{Three, Nine, three, translation_below, rotation_below, scale_below, product_below, below_mat}
use Rattle.rotation.proofs.MagnitudeLaws.{pivot_small, basis_small}
use Rattle.curve.specs.Curve.{none, Pair}
use Rattle.curve.proofs.MagnitudeLaws.{SizedCurve, SmallPair, firsts_sized, count_few, scalar_sized, rotation_sized, number_small, pair_small, sized}
use Rattle.animation.specs.Animation.{PerAxis, Axes, Object, Animation, no_axes, axes_samples, object_samples, most_objects, Triple, translation, scale, Value, first_numbers, value_from, left_out_bit, start_of, end_of, values_of, width_of, format_of, curve_word, list_fields, scalar_list, scalar, axes, animated_axes, pivot_of, basis_of, pivot_record, basis_record, referred, reference, rotation_list, rotation, animated_rotation, animated, object, animation, axes_at, matrix_at}
use Rattle.animation.proofs.ScalarLaws.{end_lt, word_told}

pub record SizedAxes {A : Type 0} (P : A → Type 0) (a : PerAxis A) : Type 0 where
  pub x : SizedCurve P a.x
  pub y : SizedCurve P a.y
  pub z : SizedCurve P a.z

-- a value of small numbers
abbrev pub SmallValue : (t : Triple) → Value t → Type 0
SmallValue translation = Small
SmallValue scale = SmallPair

pub record Sized (o : Object) : Type 0 where
  pub translation : SizedAxes (SmallValue translation) o.translation
  pub rotation : SizedCurve (Nine Small) o.rotation
  pub scale : SizedAxes (SmallValue scale) o.scale

axes_few : {A : Type 0} (P : A → Type 0) (a : PerAxis A) → SizedAxes P a → axes_samples a ≤ 196605
axes_few P a h = let x = count_few P a.x h.x in let y = count_few P a.y h.y in let z = count_few P a.z h.z in omega arith

-- seven lists, of 65,535 values at most
abbrev pub object_bound : ℕ
object_bound = 458745

sized_few : (o : Object) → Sized o → object_samples o ≤ object_bound
sized_few o h =
    let t = axes_few Small o.translation h.translation in
    let r = count_few (Nine Small) o.rotation h.rotation in
    let s = axes_few SmallPair o.scale h.scale in
    omega arith

-- three axes at a frame
pub axes_sized : (default : Float) → Small default → (a : Axes) → SizedAxes Small a → (frame : ℕ) → Three Mixed (axes_at default a frame)
unfolding axes_at
axes_sized d p a h frame = three (scalar_sized d p a.x h.x frame) (scalar_sized d p a.y h.y frame) (scalar_sized d p a.z h.z frame)

-- the first numbers of three axes of pairs
pub first_sized : (a : PerAxis Pair) → SizedAxes SmallPair a → SizedAxes Small (first_numbers a)
first_sized a h = record { x = firsts_sized a.x h.x; y = firsts_sized a.y h.y; z = firsts_sized a.z h.z }

pub matrix_finite : (o : Object) → Sized o → (frame : ℕ) → FiniteMat (matrix_at o frame)
unfolding matrix_at trs
matrix_finite o h frame =
    let t = axes_sized f0 below_zero o.translation h.translation frame in
    let r = rotation_sized o.rotation h.rotation frame in
    let s = axes_sized f1 below_one (first_numbers o.scale) (first_sized o.scale h.scale) frame in
    let moved = product_below {j = 84} {k = 84} (lit≤ tt) (translation_below t.x t.y t.z) (rotation_below r) in
    below_mat (product_below {j = 171} {k = 84} (lit≤ tt) moved (scale_below s.x s.y s.z))

-- ---- what the readers give

-- of a reader's value and the place of the next field: P of the value
abbrev Of : {X : Type 0} → (X → Type 0) → X × ℕ → Type 0
Of P v = P v.0

format_width : (w : ℕ) → width (format_of (width_of w)) ≤ 32
format_width w = go (eqb (width_of w) 0)
  where
    go : (b : Bool) → width (cond b fix1_19_12 fix1_3_12) ≤ 32
    go true = lit≤ tt
    go false = lit≤ tt

-- of the fields of a list: its curve word runs forward
abbrev Onward : ℕ × ℕ → Type 0
Onward f = start_of f.0 < end_of f.0

fields_all : (p : ℕ) → All Onward (list_fields p)
unfolding list_fields curve_word
fields_all p =
    all_bind (λ w. start_of w < end_of w) _ _ _
    (all_after _ _ _ λ w. all_bind (λ _. ltb (start_of w) (end_of w) ≡ true) _ _ _ (unless_all _ 7) λ _ e. ltb-true (start_of w) (end_of w) e)
    λ w h. all_after _ _ _ λ _. h

value_small : (t : Triple) (f : Fix) → width f ≤ 32 → (bs : List ℕ) → SmallValue t (value_from t f bs)
value_small translation f w bs = number_small f w bs
value_small scale f w bs = pair_small f w bs

scalar_list_all : (t : Triple) (w off next : ℕ) → start_of w < end_of w → All (Of (SizedCurve (SmallValue t))) (scalar_list t w off next)
unfolding scalar_list
scalar_list_all t w off next f =
    all_bind (Many (SmallValue t) (values_of w)) _ _ _ (list_all (SmallValue t) off _ _ (λ bs _. value_small t (format_of (width_of w)) (format_width w) bs) _) λ vs h. sized vs (end_lt w) (word_told w off _ f) h

scalar_all : (t : Triple) (b : Bool) (p : ℕ) → All (Of (SizedCurve (SmallValue t))) (scalar t b p)
unfolding scalar
scalar_all t true p = all_after _ _ _ λ bs. value_small t fix1_19_12 (lit≤ tt) bs
scalar_all t false p = all_bind Onward _ _ _ (fields_all p) λ f. scalar_list_all t f.0 f.1 (p + 8)

axes_all : (t : Triple) (flags p : ℕ) → All (Of (SizedAxes (SmallValue t))) (axes t flags p)
unfolding axes
axes_all t flags p =
    all_bind (Of (SizedCurve (SmallValue t))) _ _ _ (scalar_all t _ _) λ x hx.
    all_bind (Of (SizedCurve (SmallValue t))) _ _ _ (scalar_all t _ _) λ y hy.
    all_bind (Of (SizedCurve (SmallValue t))) _ _ _ (scalar_all t _ _) λ z hz.
    record { x = hx; y = hy; z = hz }

no_axes_lem : {A : Type 0} (P : A → Type 0) → SizedAxes P no_axes
no_axes_lem P = record { x = tt; y = tt; z = tt }

animated_axes_all : (t : Triple) (flags p : ℕ) → All (Of (SizedAxes (SmallValue t))) (animated_axes t flags p)
unfolding animated_axes
animated_axes_all t flags p = all_cond _ (eqb (bits flags (left_out_bit t) (left_out_bit t + 2)) 0) (axes t flags p) (done (no_axes, p)) (axes_all t _ _) (no_axes_lem (SmallValue t))

module _ (pivot basis : ℕ) where
  -- whatever bytes a reference leads to
  pub referred_small : (x : ℕ) (bs : List ℕ) → Nine Small ((referred pivot basis x).gives bs)
  unfolding referred pivot_of basis_of
  referred_small x bs = go (bit x 15)
    where
      go : (b : Bool) → Nine Small ((cond b (pivot_record (pivot + 6 * bits x 0 15)) (basis_record (basis + 10 * bits x 0 15))).gives bs)
      go true = pivot_small _ _ _ _ (small_fixed fix1_3_12 (lit≤ tt) _) (small_fixed fix1_3_12 (lit≤ tt) _)
      go false = basis_small _ _ _ _ _

  reference_all : (x : ℕ) → All (Nine Small) (reference pivot basis x)
  unfolding reference
  reference_all x bs _ _ = referred_small x bs

  rotation_list_all : (w off next : ℕ) → start_of w < end_of w → All (Of (SizedCurve (Nine Small))) (rotation_list pivot basis w off next)
  unfolding rotation_list
  rotation_list_all w off next f =
      all_bind (λ xs. length xs ≡ values_of w) _ _ _ (length_all off _ _ _) λ xs n.
      all_bind (Many (Nine Small) (length xs)) _ _ _ (all_each _ _ xs (each_of _ reference_all xs)) λ ms h. sized ms (end_lt w) (word_told w off _ f) (h.0 ∙ n, h.1)

  rotation_all : (b : Bool) (p : ℕ) → All (Of (SizedCurve (Nine Small))) (rotation pivot basis b p)
  unfolding rotation
  rotation_all true p =
      all_after _ _ _ λ x.
      all_after _ _ _ λ _.
      all_bind (Nine Small) _ _ _ (reference_all x) λ m h. h
  rotation_all false p = all_bind Onward _ _ _ (fields_all p) λ f. rotation_list_all f.0 f.1 (p + 8)

  animated_all : (flags p : ℕ) → All Sized (animated pivot basis flags p)
  unfolding animated animated_rotation
  animated_all flags p =
      all_bind (Of (SizedAxes Small)) _ _ _ (animated_axes_all translation _ _) λ a ha.
      all_bind (Of (SizedCurve (Nine Small))) _ _ _ (all_cond _ (eqb (bits flags 6 8) 0) (rotation pivot basis (bit flags 8) a.1) (done (none, a.1)) (rotation_all _ _) tt) λ r hr.
      all_bind (Of (SizedAxes SmallPair)) _ _ _ (animated_axes_all scale _ _) λ s hs.
      record { translation = ha; rotation = hr; scale = hs }

  object_all : (p : ℕ) → All Sized (object pivot basis p)
  unfolding object
  object_all p =
      all_after _ _ _ λ flags.
      all_after _ _ _ λ _.
      all_cond _ (bit flags 0) (done _) (animated pivot basis flags (p + 4)) (record { translation = no_axes_lem Small; rotation = tt; scale = no_axes_lem SmallPair }) (animated_all _ _)

  -- what code counts of an object's lists
  pub object_few : (s : List ℕ) → Bytes s → (p m : ℕ) (j c : ℕ) → accepted j c ≡ tally_of object_samples (run (object pivot basis p) s m) → c ≤ object_bound
  object_few s h p m j c e = tally_le object_samples object_bound (object pivot basis p) (all_map Sized (λ o. object_samples o ≤ object_bound) sized_few (object pivot basis p) (object_all p)) s h m _ e j c refl

abbrev pub SizedAnimation : Animation → Type 0
SizedAnimation a = (length a.objects ≤ most_objects) × Each Sized a.objects

pub animation_all : All SizedAnimation animation
unfolding animation
animation_all =
    all_after _ _ _ λ stamp.
    all_after _ _ _ λ frames.
    all_after _ _ _ λ objects.
    all_after _ _ _ λ _.
    all_after _ _ _ λ pivot.
    all_after _ _ _ λ basis.
    all_bind (λ xs. length xs ≡ objects) _ _ _ (length_all 20 _ _ _) λ offsets n.
    all_after _ _ _ λ _.
    all_after _ _ _ λ _.
    all_bind (λ _. leb objects most_objects ≡ true) _ _ _ (unless_all _ _) λ _ t.
    all_bind (Many Sized (length offsets)) _ _ _ (all_each _ _ offsets (each_of _ (object_all pivot basis) offsets)) λ os h.
    (let l = leb-true objects most_objects t in let q = h.0 in omega arith, h.1)

pub animation_few : (a : Animation) → SizedAnimation a → total object_samples a.objects < entry_bound
animation_few a h =
    let n : length a.objects ≤ most_objects = h.0 in
    let l = total-le object_samples object_bound a.objects (each_map Sized (λ o. object_samples o ≤ object_bound) sized_few a.objects h.1) in
    omega arith

-- no entry of a sampled matrix is a NaN or an infinity, whatever bytes are read
pub objects_finite : (a : Animation) → SizedAnimation a
    → (i : ℕ) → i < length a.objects → (d : Object) (frame : ℕ) → FiniteMat (matrix_at (get_or a.objects i d) frame)
objects_finite a h i l d frame = matrix_finite _ (each_at Sized a.objects d h.1 i l) frame

pub animation_finite : (s : List ℕ) → Bytes s → (m m' : ℕ) (a : Animation) → run animation s m ≡ accepted m' a
    → (i : ℕ) → i < length a.objects → (d : Object) (frame : ℕ) → FiniteMat (matrix_at (get_or a.objects i d) frame)
animation_finite s b m m' a e = objects_finite a (all_run SizedAnimation animation animation_all s b m m' a e)
