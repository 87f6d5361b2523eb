-- Objects of a whole entry, and the matrices of a rotation. Assumes nothing.
use Prim.Native.Nat.{ℕ, ◌+◌, ◌*◌, ◌≤◌, ◌<◌}
use mathlib.Core.List.{List, [], ◌∷◌, map}
use mathlib.Core.Path.{◌≡◌, refl, sym, ap, subst, ◌∙◌}
use native.Mathlib.Nat.{add-zero}
use native.Mathlib.Omega.{arith}
use borrow.Author.Tests.{lt-ltb, le-ltb}
use lib.ListN.{length, take, drop, get_or}
use Rattle.util.specs.Bits.{bits}
use Rattle.util.specs.RefusalCode.{number_of}
use Rattle.util.specs.Fixed.{fix1_3_12, fixed}
use Rattle.util.specs.View.{little, word_at, view}
use Rattle.std.specs.Prelude.{Result, Ok, Err, IsOk}
use Rattle.util.specs.declared.refusal.Refusal.{Refusal}
use Rattle.util.specs.Reader.{Reader, accepted, run, Verdict, denied}
use Rattle.util.proofs.All.{each_at}
use Rattle.util.proofs.Each.{each_read}
use Rattle.util.proofs.ReadsLaws.{not_both}
use Rattle.util.proofs.ViewLaws.{map_at, view-length, view_there, word_part}
use Rattle.util.proofs.BelowLaws.{Small}
use Rattle.animation.proofs.RotationLaws.{reference_count}
use Rattle.animation.proofs.FiniteLaws.{referred_small}
use Rattle.matrix.specs.declared.Mat3.{Mat3}
use Rattle.matrix.specs.Matrix.{f0, identity3}
use Rattle.matrix.proofs.MagnitudeLaws.{Nine}
use Rattle.rotation.specs.Rotation.{pivot_mat, basis_mat}
use Rattle.curve.specs.declared.SampleList.{SampleList}
use Rattle.curve.specs.declared.ScalarCurve.{ScalarCurve}
use Rattle.curve.specs.Curve.{Curve, none, mix_mat}
use Rattle.curve.proofs.MixLaws.{mix_mat_same}
use Rattle.animation.specs.declared.Animation.{Animation as Known}
use Rattle.animation.specs.declared.AxisCurves.{AxisCurves}
use Rattle.animation.specs.declared.Tables.{Tables}
use Rattle.animation.specs.declared.TRSCurves.{TRSCurves}
use Rattle.animation.specs.declared.ObjectRead.{ObjectRead}
use Rattle.animation.specs.Animation.{Object, still_object, on_axis, object, pivot_of, basis_of}
use Rattle.animation.specs.AnimationCode.{tables_at, object_curves, ObjectReads, WholeAnimation, matrix_for, reference_end, references, InsideReferences}
use Rattle.trs.specs.TrsCode.{ObjectStands, AxisIs}

-- the object at an offset of the entry s
abbrev at : List ℕ → ℕ → Reader Object
at s p = object (word_at 4 s 12) (word_at 4 s 16) p

-- object o of a whole entry is read whole
pub object_whole : (s : List ℕ) (a : Known) (w : WholeAnimation s a) (o : ℕ) (d : Object) → o < a.objects → (k : ℕ) × (run (at s (word_at 2 s (20 + 2 * o))) s 0 ≡ accepted k (get_or w.held.objects o d))
object_whole s a w o d h =
    let offsets = view 2 little a.objects (drop 20 s) in
    let r = w.objects in
    let l : o < length offsets = subst (λ (n : ℕ). o < n) (sym (view-length 2 little a.objects (drop 20 s))) h in
    let x = (each_read (at s) s offsets 0 r.0 w.held.objects r.1).1 o 0 d l in
    (x.0, subst (λ (p : ℕ). run (at s p) s 0 ≡ accepted x.0 (get_or w.held.objects o d)) (view_there 2 little a.objects o 20 s 0 h) x.1)

-- and so are the curves that stand there
pub same_object : (s : List ℕ) (a : Known) (w : WholeAnimation s a) (o : ℕ) (d : Object) → o < a.objects → (c : TRSCurves) → ObjectStands s o c → object_curves (tables_at s) s c ≡ get_or w.held.objects o d
same_object s a w o d h c x = let y = object_whole s a w o d h in let e = sym x.reads ∙ y.1 in cc

-- what reading an object found, in a whole entry: it is no refusal
module _ (s : List ℕ) (a : Known) (w : WholeAnimation s a) (o : ℕ) (h : o < a.objects) (p : ℕ) (e : p ≡ word_at 2 s (20 + 2 * o)) where
  abbrev found : Result ObjectRead Refusal → Type 0
  found x = ObjectReads (object a.tables.pivot a.tables.basis p) a.tables s 0 x

  here : (x : Result ObjectRead Refusal) → found x → ObjectReads (at s (word_at 2 s (20 + 2 * o))) (tables_at s) s 0 x
  here x q = subst (λ (y : ℕ). ObjectReads (at s y) (tables_at s) s 0 x) e (subst (λ (t : Tables). ObjectReads (object t.pivot t.basis p) t s 0 x) w.tables q)

  pub object_is_read : (x : Result ObjectRead Refusal) → found x → IsOk x
  object_is_read (Ok r) q = refl
  object_is_read (Err n) q = absurd (not_both (object_whole s a w o still_object h).1 (here (Err n) q).reads)

  pub object_read : (r : ObjectRead) → found (Ok r) → ObjectStands s o r.curves
  object_read r q = let x = here (Ok r) q in record { reach = r.reach; reads = x.reads; inside = x.holds.inside }

-- ---- one of three axes

module _ (a : AxisCurves) (axis : ℕ) where
  -- what holds of the three curves holds of this one
  pub axis_holds : (P : ScalarCurve → Type 0) → P a.x × P a.y × P a.z → (c : ScalarCurve) → AxisIs a axis (Ok c) → P c
  axis_holds P h c i = subst P (sym i.1) (each_at P (a.x ∷ a.y ∷ a.z ∷ []) ScalarCurve.None (h.0, (h.1, (h.2, tt))) axis i.0)

  module _ {A B : Type 0} (curve : ScalarCurve → Curve A) (f : Curve A → Verdict B) where
    abbrev asked : Verdict B
    asked = on_axis (record { x = curve a.x; y = curve a.y; z = curve a.z }) axis f

    pub on_axis_lem : (c : ScalarCurve) → AxisIs a axis (Ok c) → f (curve c) ≡ asked
    on_axis_lem c h = rw (lt-ltb axis 3 h.0, map_at curve (a.x ∷ a.y ∷ a.z ∷ []) axis ScalarCurve.None none h.0, h.1) refl

    pub past_axes : (e : Refusal) → AxisIs a axis (Err e) → denied (number_of e) ≡ asked
    past_axes e h = rw (le-ltb axis 3 h.0, h.1) refl

-- ---- rotations

pub pivot_there : (s : List ℕ) (p : ℕ) → pivot_of (take 6 (drop p s)) ≡ pivot_mat (bits (word_at 2 s p) 0 4) (bits (word_at 2 s p) 4 8) (fixed fix1_3_12 (word_at 2 s (p + 2))) (fixed fix1_3_12 (word_at 2 s (p + 4)))
unfolding pivot_of
pivot_there s p = rw (word_part 2 6 p 0 s (omega arith), word_part 2 6 p 2 s (omega arith), word_part 2 6 p 4 s (omega arith), add-zero p) refl

pub basis_there : (s : List ℕ) (p : ℕ) → basis_of (take 10 (drop p s)) ≡ basis_mat (word_at 2 s p) (word_at 2 s (p + 2)) (word_at 2 s (p + 4)) (word_at 2 s (p + 6)) (word_at 2 s (p + 8))
unfolding basis_of
basis_there s p = rw (word_part 2 10 p 0 s (omega arith), word_part 2 10 p 2 s (omega arith), word_part 2 10 p 4 s (omega arith), word_part 2 10 p 6 s (omega arith), word_part 2 10 p 8 s (omega arith), add-zero p) refl

-- the matrices of a list of references
module _ (t : Tables) (s : List ℕ) (l : SampleList) where
  abbrev matrices : List Mat3
  matrices = map (matrix_for t s) (references s l)

  -- matrix k is the same when it is mixed with itself
  pub matrix_same : (k : ℕ) → k < l.length → (r : Mat3) → r ≡ get_or matrices k identity3 → mix_mat r r f0 ≡ r
  matrix_same k h r e =
      let is : r ≡ matrix_for t s (get_or (references s l) k 0) = e ∙ map_at (matrix_for t s) (references s l) k 0 identity3 (rw (reference_count s l) h) in
      mix_mat_same r (subst (Nine Small) (sym is) (referred_small t.pivot t.basis _ _))

  -- reference k, as code reads it
  module _ (k : ℕ) (h : k < l.length) (x : ℕ) (e : x ≡ word_at 2 s (l.place + 2 * k)) where
    read : x ≡ get_or (references s l) k 0
    read = e ∙ sym (view_there 2 little l.length k l.place s 0 h)

    pub reference_inside : InsideReferences t s l → reference_end t x ≤ length s
    reference_inside i = rw read (i.records k h)

    pub matrix_there : (r : Mat3) → r ≡ matrix_for t s x → (default : Mat3) → r ≡ get_or matrices k default
    matrix_there r q default = q ∙ ap (matrix_for t s) read ∙ sym (map_at (matrix_for t s) (references s l) k 0 default (rw (reference_count s l) h))
