-- How many frames there are from one frame to the end. Assumes nothing.
use Prim.Native.Nat.{ℕ, zero, suc, ◌+◌, ◌-◌, ◌*◌, min, max, ◌≤◌, ◌<◌}
use mathlib.Core.Bool.{Bool, true, false, cond}
use mathlib.Core.List.{List, [], ◌∷◌}
use mathlib.Core.Logic.{⊎_elim}
use mathlib.Core.Path.{◌≡◌, refl, sym, ap, subst, ◌∙◌}
use native.Mathlib.Nat.{le_refl, div-eq_of_lt, mod-eq_of_lt, add-div_right, add-mod_right}
use Rattle.std.specs.Int.{div_ceil}
use native.Mathlib.Omega.{arith}
use borrow.Author.Tests.{ltb-true, ltb-false, lt-ltb, le-ltb}
use lib.Dec.{ltb, lit<}
use lib.ListN.{length}
use Rattle.util.proofs.Cut.{le_or_lt}
use Rattle.gltf.specs.Curve.{Domain, no_domain, over, union, frames_from, frames_of}
use Rattle.gltf.specs.CurveCode.{Stepped}

-- the distance to the end over the rate, rounded up
abbrev pub count : ℕ → ℕ → ℕ → ℕ
count f end rate = div_ceil (end - f) rate

none_left : (f end rate : ℕ) → 1 ≤ rate → end ≤ f → count f end rate ≡ 0
none_left f end rate h l =
    let q : end - f ≡ 0 = omega arith in
    let z : 0 < rate = omega arith in
    rw (q, div-eq_of_lt z, mod-eq_of_lt z) refl

one_step : (f end rate : ℕ) → 1 ≤ rate → f < end → count f end rate ≡ suc (count (f + rate) end rate)
one_step f end rate h l = ⊎_elim far near (le_or_lt (f + rate) end)
  where
    far : f + rate ≤ end → count f end rate ≡ suc (count (f + rate) end rate)
    far k = let q : end - f ≡ end - (f + rate) + rate = omega arith in rw (q, add-div_right (end - (f + rate)) h, add-mod_right (end - (f + rate)) rate) (omega arith)

    near : end < f + rate → count f end rate ≡ suc (count (f + rate) end rate)
    near k =
        let z : end - f < rate = omega arith in
        rw (none_left (f + rate) end rate h (omega arith), div-eq_of_lt z, mod-eq_of_lt z) (omega arith)

frames_step : (b : Bool) (f end rate : ℕ) (later : List ℕ) → 1 ≤ rate → ltb f end ≡ b → length later ≡ count (f + rate) end rate → length (cond b (f ∷ later) []) ≡ count f end rate
frames_step true f end rate later h e q = ap suc q ∙ sym (one_step f end rate h (ltb-true f end e))
frames_step false f end rate later h e q = sym (none_left f end rate h (ltb-false f end e))

frames_length : (steps f end rate : ℕ) → 1 ≤ rate → end - f ≤ steps → length (frames_from steps f end rate) ≡ count f end rate
unfolding frames_from
frames_length zero f end rate h l = sym (none_left f end rate h (omega arith))
frames_length (suc steps) f end rate h l = frames_step (ltb f end) f end rate (frames_from steps (f + rate) end rate) h refl (frames_length steps (f + rate) end rate h (omega arith))

-- no more frames than steps
few_frames : (steps f end rate : ℕ) → length (frames_from steps f end rate) ≤ steps
unfolding frames_from
few_frames zero f end rate = le_refl 0
few_frames (suc steps) f end rate = at_most (ltb f end) f (frames_from steps (f + rate) end rate) (few_frames steps (f + rate) end rate)
  where
    at_most : (b : Bool) (f : ℕ) (later : List ℕ) → length later ≤ steps → length (cond b (f ∷ later) []) ≤ suc steps
    at_most true f later h = omega arith
    at_most false f later h = omega arith

-- ---- one frame after the other

-- the number of steps is no bound where it is at least the distance to the end
enough : (m n f end rate : ℕ) → 1 ≤ rate → end - f ≤ m → end - f ≤ n → frames_from m f end rate ≡ frames_from n f end rate
unfolding frames_from
enough zero zero f end rate h p q = refl
enough zero (suc n) f end rate h p q = rw (le-ltb f end (omega arith)) refl
enough (suc m) zero f end rate h p q = rw (le-ltb f end (omega arith)) refl
enough (suc m) (suc n) f end rate h p q = ap (λ (later : List ℕ). cond (ltb f end) (f ∷ later) []) (enough m n (f + rate) end rate h (omega arith) (omega arith))

-- the frames from f on
abbrev pub onward : ℕ → ℕ → ℕ → List ℕ
onward f end rate = frames_from (end - f) f end rate

module _ (f end rate : ℕ) where
  pub next_frame : 1 ≤ rate → f < end → onward f end rate ≡ f ∷ onward (f + rate) end rate
  unfolding frames_from
  next_frame h l =
      let q : end - f ≡ suc (end - f - 1) = omega arith in
      ap (λ (m : ℕ). frames_from m f end rate) q ∙ rw (lt-ltb f end l) (ap (λ (fs : List ℕ). f ∷ fs) (enough (end - f - 1) (end - (f + rate)) (f + rate) end rate h (omega arith) (omega arith)))

  pub no_frame : end ≤ f → onward f end rate ≡ []
  unfolding frames_from
  no_frame l = let q : end - f ≡ 0 = omega arith in ap (λ (m : ℕ). frames_from m f end rate) q

-- ---- of a domain

-- how many, and that they are few
abbrev pub Counts : Domain → ℕ → Type 0
Counts d n = (n ≡ length (frames_of d)) × (n < 65536)

pub no_frames : (d : Domain) → d ≡ no_domain → Counts d 0
unfolding frames_of
no_frames d e = (rw e refl, lit< tt)

pub frames_count : (d : Domain) (start end rate : ℕ) → d ≡ over start end rate → Stepped d → end < 65536 → Counts d (count start end rate)
unfolding frames_of
frames_count d start end rate e h l =
    let k : Stepped (over start end rate) = subst Stepped e h in
    let n = frames_length (end - start) start end rate k.1 (omega arith) in
    let m = few_frames (end - start) start end rate in
    (rw e (sym n), omega arith)

-- the frames of a domain from number k on
abbrev pub left : Domain → ℕ → List ℕ
left no_domain k = []
left (over start end rate) k = onward (start + rate * k) end rate

pub all_left : (d : Domain) → frames_of d ≡ left d 0
unfolding frames_of
all_left no_domain = refl
all_left (over start end rate) = let e : start ≡ start + rate * 0 = omega arith in ap (λ (f : ℕ). onward f end rate) e

-- so many have come, and not all: the next is `rate` after the last, and below the end
module _ (d : Domain) (start end rate : ℕ) (e : d ≡ over start end rate) (h : Stepped d) (k : ℕ) (come : length (left d k) + k ≡ length (frames_of d)) (some : k < length (frames_of (over start end rate))) where
  pub frame_below : start + rate * k < end
  frame_below = ⊎_elim past (λ a. a) (le_or_lt end (start + rate * k))
    where
      past : end ≤ start + rate * k → start + rate * k < end
      past a =
          let none : length (left d k) ≡ 0 = rw e (ap length (no_frame (start + rate * k) end rate a)) in
          let all : length (frames_of d) ≡ length (frames_of (over start end rate)) = ap (λ (x : Domain). length (frames_of x)) e in
          absurd (omega arith)

  pub next_left : left d k ≡ (start + rate * k) ∷ left d (k + 1)
  next_left =
      let next : start + rate * k + rate ≡ start + rate * (k + 1) = omega arith in
      rw e (next_frame (start + rate * k) end rate (subst Stepped e h).1 frame_below ∙ ap (λ (f : ℕ). (start + rate * k) ∷ onward f end rate) next)

pub stepped : (d : Domain) (start end rate : ℕ) → d ≡ over start end rate → Stepped d → (start < end) × (1 ≤ rate)
stepped d start end rate e h = subst Stepped e h

-- ---- the union of two

pub union_one : (a b : Domain) (s e r : ℕ) → a ≡ over s e r → b ≡ no_domain → over s e r ≡ union a b
unfolding union
union_one a b s e r p q = rw (p, q) refl

pub union_two : (a b : Domain) (s e r s₁ e₁ r₁ s₂ e₂ r₂ : ℕ) → a ≡ over s₁ e₁ r₁ → b ≡ over s₂ e₂ r₂ → s ≡ min s₁ s₂ → e ≡ max e₁ e₂ → r ≡ min r₁ r₂ → over s e r ≡ union a b
unfolding union
union_two a b s e r s₁ e₁ r₁ s₂ e₂ r₂ p q x y z = rw (p, q, x, y, z) refl
