-- Text written piece by piece. Assumes nothing.
use Prim.Native.Nat.{ℕ, zero, suc, ◌+◌, ◌-◌, ◌/◌, ◌≤◌, ◌<◌}
use mathlib.Core.List.{List, [], ◌∷◌, ◌++◌}
use mathlib.Core.Path.{◌≡◌, refl, sym, ap}
use native.Mathlib.Nat.{add-zero, add_assoc, sub-zero}
use native.Mathlib.Numerals.{sub-one}
use native.Mathlib.Omega.{arith}
use lib.ListN.{length, take, length-append}
use lib.Seq.{take_all}
use Rattle.std.proofs.lemmas.List.Edits.{sets}
use Rattle.std.proofs.lemmas.List.{length-take}
use Rattle.util.proofs.WritesLaws.{sets-append}
use Rattle.text.specs.declared.Text.{Text}
use Rattle.text.specs.Text.{digit, digits}
use Rattle.text.specs.Writes.{room}
use Rattle.text.specs.WritesCode.{kept, pushed}

take_two : (n : ℕ) (x y : List ℕ) → take n (x ++ y) ≡ take n x ++ take (n - length x) y
take_two zero x y = let e : 0 - length x ≡ 0 = omega arith in rw e refl
take_two (suc n) [] y = sym (ap (λ (k : ℕ). take k y) (sub-zero (suc n)))
take_two (suc n) (a ∷ x) y = let e : suc n - suc (length x) ≡ n - length x = omega arith in rw (e, take_two n x y) refl

take_none : (n : ℕ) → take {A = ℕ} n [] ≡ []
take_none zero = refl
take_none (suc n) = refl

pub pushed_none : (t : Text) → pushed t [] ≡ t
unfolding pushed
pushed_none t = rw (take_none (room - t.len), add-zero t.len) refl

pub no_room : (t : Text) (bytes : List ℕ) → room ≤ t.len → pushed t bytes ≡ t
unfolding pushed
no_room t bytes h = let e : room - t.len ≡ 0 = omega arith in rw (e, add-zero t.len) refl

-- two pieces are one
pub pushed_on : (t : Text) (x y : List ℕ) → pushed (pushed t x) y ≡ pushed t (x ++ y)
unfolding pushed
pushed_on t x y =
    let a = kept t x in
    let b = take (room - t.len - length x) y in
    let n = length-take (room - t.len) x in
    let e : room - (t.len + length a) ≡ room - t.len - length x = omega arith in
    rw (e, take_two (room - t.len) x y, sets-append t.out.now t.len a b, length-append a b, add_assoc t.len (length a) (length b)) refl

-- text from the array's start on, for which there is room
pub all_of_it : (t u : Text) (bytes : List ℕ) → t.len ≡ 0 → length bytes ≤ room → u ≡ pushed t bytes
    → (u.len ≡ length bytes) × (u.out.now ≡ sets t.out.now 0 bytes) × (u.out.ghost_name ≡ t.out.ghost_name)
unfolding pushed
all_of_it t u bytes z h e =
    let k : take room bytes ≡ bytes = take_all room bytes h in
    let r : room - t.len ≡ room = omega arith in
    rw (e, r, k, z) (omega arith, refl, refl)

-- ---- a number's digits, the last one last

pub no_digits : (width n : ℕ) → width ≤ 0 → digits width n ≡ []
unfolding digits
no_digits zero n h = refl
no_digits (suc width) n h = absurd (omega arith)

pub more_digits : (width n : ℕ) → 0 < width → digits width n ≡ digits (width - 1) (n / 10) ++ (digit n ∷ [])
unfolding digits
more_digits zero n h = absurd (omega arith)
more_digits (suc width) n h = rw (sub-one (suc width)) refl
