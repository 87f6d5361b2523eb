-- Domains of curves as they stand in a section, and their values written into a slice. Assumes nothing.
use Prim.Native.Nat.{ℕ, suc, ◌+◌, ◌-◌, ◌*◌, ◌/◌, ◌≤◌, ◌<◌}
use mathlib.Core.Bool.{Bool, true, false, ◌||◌}
use mathlib.Core.List.{List, [], ◌∷◌, ◌++◌}
use mathlib.Core.Path.{◌≡◌, refl, sym, ap, subst, ◌∙◌}
use native.Mathlib.Nat.{le-div_iff_mul-le}
use native.Mathlib.Omega.{arith}
use borrow.Author.Tests.{ne_eqb, eqb-false, le-leb, lt-leb}
use lib.Dec.{eqb, lit≤, lit<}
use lib.Ieee.{Float}
use lib.ListN.{length, set, take, drop}
use lib.Seq.{sets}
use Rattle.util.specs.Reader.{answered}
use Rattle.util.proofs.WritesLaws.{sets_lent}
use Rattle.matrix.specs.declared.Col3.{Col3}
use Rattle.curve.specs.declared.Number.{Number}
use Rattle.curve.specs.declared.SampleList.{SampleList}
use Rattle.curve.specs.declared.ScalarCurve.{ScalarCurve}
use Rattle.curve.specs.declared.ScalarCurve.TheVariants.{Samples}
use Rattle.curve.specs.Curve.{ListRecord, Curve, constant, samples, number_of}
use Rattle.curve.specs.CurveCode.{scalar_curve, list_means, values_in, InsideList}
use Rattle.curve.proofs.SampleLaws.{value_count}
use Rattle.animation.specs.Animation.{Axes, axes_at}
use Rattle.std.specs.Prelude.{Result, Ok, Err, Option, Some, None}
use Rattle.util.specs.declared.refusal.Refusal.{Refusal}
use Rattle.util.specs.declared.refusal.Refusal.TheVariants.{EmptyList, SmallSlice}
use Rattle.gltf.specs.declared.Frames.{Frames}
use Rattle.gltf.specs.Curve.{Domain, no_domain, over, domain, is_empty, union, frames_of, axes_domain, any_empty, sample_axes, resample_vec3, span_of, resample, slice_of}
use Rattle.gltf.specs.CurveCode.{Stepped, frames_means, resampling_means}

-- ---- empty lists

-- a list is empty if its length is 0
pub count_empty : {A : Type 0} (r : ListRecord) (vs : List A) (n : ℕ) → length vs ≡ n → eqb n 0 ≡ is_empty (samples r vs)
unfolding is_empty
count_empty r [] n e = rw (← e) refl
count_empty r (v ∷ vs) n e = ne_eqb n 0 (λ (k : n ≡ 0). omega arith)

-- two tests in a row
pub or_first : (x y j : Bool) → x ≡ true → j ≡ true → j ≡ (x || y)
or_first x y j e q = rw e q

pub or_second : (x y j : Bool) → x ≡ false → j ≡ y → j ≡ (x || y)
or_second x y j e q = rw e q

neither : (x y z : Bool) → (x || y || z) ≡ false → (x ≡ false) × (y ≡ false) × (z ≡ false)
neither true y z e = (e, cc, cc)
neither false true z e = (refl, e, cc)
neither false false z e = (refl, refl, e)

pub none_empty : (a : Axes) → any_empty a ≡ false → (is_empty a.x ≡ false) × (is_empty a.y ≡ false) × (is_empty a.z ≡ false)
unfolding any_empty
none_empty a e = neither _ _ _ e

-- ---- domains

-- the domain of a curve, whose frames can be stepped through
abbrev pub DomainIs : Curve Float → Domain → Type 0
DomainIs c d = (d ≡ domain c) × Stepped d

-- of a curve whose variant is known
module _ (s : List ℕ) (c known : ScalarCurve) (q : c ≡ known) where
  pub domain_as : (d : Domain) → DomainIs (scalar_curve s known) d → DomainIs (scalar_curve s c) d
  domain_as d h = rw q h

pub constant_domain : (v : Float) (d : Domain) → d ≡ over 0 1 1 → DomainIs (constant v) d
unfolding domain
constant_domain v d e = (e, subst Stepped (sym e) (lit< tt, lit≤ tt))

pub list_counts : (s : List ℕ) (c : ScalarCurve) (l : SampleList) (number : Number) → c ≡ Samples l number → is_empty (scalar_curve s c) ≡ false → 1 ≤ l.length
list_counts s c l number q e =
    let k = eqb-false l.length 0 (count_empty (list_means l) (values_in number_of s l number) l.length (value_count number_of s l number) ∙ rw q at e) in
    omega arith

values_domain : {A : Type 0} (r : ListRecord) (vs : List A) (n : ℕ) → length vs ≡ n → 1 ≤ n → over r.start r.end ((r.end - r.start) / n) ≡ domain (samples r vs)
unfolding domain
values_domain r [] n e h = absurd (omega arith)
values_domain r (v ∷ vs) n e h = ap (λ (k : ℕ). over r.start r.end ((r.end - r.start) / k)) (sym e)

pub list_domain : (s : List ℕ) (l : SampleList) (number : Number) → InsideList s l number → 1 ≤ l.length
    → (d : Domain) → d ≡ over l.start l.end ((l.end - l.start) / l.length) → DomainIs (scalar_curve s (Samples l number)) d
list_domain s l number i h d e =
    let k = i.frames in
    let q : 1 * l.length ≤ l.end - l.start = omega arith in
    (e ∙ values_domain (list_means l) (values_in number_of s l number) l.length (value_count number_of s l number) h, subst Stepped (sym e) (omega arith, (le-div_iff_mul-le h).1 q))

union_stepped : (a b : Domain) → Stepped a → Stepped b → Stepped (union a b)
unfolding union
union_stepped no_domain b h k = k
union_stepped (over s e r) no_domain h k = h
union_stepped (over s₁ e₁ r₁) (over s₂ e₂ r₂) h k = (omega arith, omega arith)

pub axes_domain_is : (a : Axes) (x y z xy d : Domain) → DomainIs a.x x → DomainIs a.y y → DomainIs a.z z → xy ≡ union x y → d ≡ union xy z → (d ≡ axes_domain a) × Stepped d
unfolding axes_domain
axes_domain_is a x y z xy d h k l e q = (cc, subst Stepped (sym (q ∙ ap (λ (w : Domain). union w z) e)) (union_stepped (union x y) z (union_stepped x y h.1 k.1) l.1))

-- ---- the values, written one frame after the other

module _ (default : Float) (a : Axes) where
  -- what is written of some frames, from a place on
  abbrev pub written : List Float → ℕ → List ℕ → List Float
  written l at fs = sets l at (sample_axes default a fs)

  pub write_none : (l : List Float) (at : ℕ) (fs : List ℕ) → length fs ≡ 0 → l ≡ written l at fs
  unfolding sample_axes
  write_none l at [] e = refl
  write_none l at (f ∷ fs) e = absurd (omega arith)

  pub write_frame : (l : List Float) (k f : ℕ) (fs later : List ℕ) (v : Col3) → fs ≡ f ∷ later → v ≡ axes_at default a f
      → written (set (set (set l (3 * k) v.x) (3 * k + 1) v.y) (3 * k + 2) v.z) (3 * (k + 1)) later ≡ written l (3 * k) fs
  unfolding sample_axes
  write_frame l k f fs later v q e =
      let at : 3 * (k + 1) ≡ suc (suc (suc (3 * k))) = omega arith in
      let one : 3 * k + 1 ≡ suc (3 * k) = omega arith in
      let two : 3 * k + 2 ≡ suc (suc (3 * k)) = omega arith in
      rw (q, ← e, at, one, two) refl

-- ---- the answer, and what the slice holds

-- what the call answers, and what it leaves in the slice
abbrev Leaves : Float → Axes → List Float → ℕ → Result (Option Frames) Refusal → List Float → Type 0
Leaves default a out place r after = (resampling_means r after ≡ resample default a out place) × (after ≡ slice_of out (resample default a out place))

-- what is answered of a domain, where it fits
abbrev Answers : Domain → Option Frames → Type 0
Answers d r = (slice : List Float) → frames_means slice r ≡ record { over = span_of d; frames = length (frames_of d); slice = slice }

module _ (default : Float) (a : Axes) (out : List Float) (place : ℕ) where
  pub empty_list : any_empty a ≡ true → Leaves default a out place (Err EmptyList) out
  unfolding resample
  empty_list e = rw e (refl, refl)

  module _ (e : any_empty a ≡ false) (d : Domain) (q : d ≡ axes_domain a) where
    pub too_small : length out < place + 3 * length (frames_of d) → Leaves default a out place (Err SmallSlice) out
    unfolding resample
    too_small h = rw (e, ← q, lt-leb (place + 3 * length (frames_of d)) (length out) h) (refl, refl)

    -- `part` is what the callee left in the part of the slice that it was lent
    pub resampled : place + 3 * length (frames_of d) ≤ length out → (part : List Float) → part ≡ sets (take (length out - place) (drop place out)) 0 (sample_axes default a (frames_of d))
        → (r : Option Frames) → Answers d r → Leaves default a out place (Ok r) (take place out ++ (part ++ drop (length out - place) (drop place out)))
    unfolding resample resample_vec3
    resampled h part w r k =
        let l : place ≤ length out = omega arith in
        let m = sets_lent place out part (sample_axes default a (frames_of d)) l w in
        rw (e, ← q, le-leb (place + 3 * length (frames_of d)) (length out) h)
        (ap answered (k _ ∙ ap (λ (slice : List Float). record { over = span_of d; frames = length (frames_of d); slice = slice }) m), m)

-- how a domain is answered
module _ (d : Domain) where
  pub no_frames_answered : d ≡ no_domain → Answers d None
  unfolding frames_of
  no_frames_answered e slice = rw e refl

  pub frames_answered : (start end rate n : ℕ) → d ≡ over start end rate → n ≡ length (frames_of d) → Answers d (Some (record { start_frame = start; end_frame = end; frames = n }))
  frames_answered start end rate n e q slice = rw (← q, e) refl
