-- What is exact: a float's own value, the float times one, times zero and plus a zero, and the difference of equals. Assumes nothing.
use Prim.Native.Nat.{ℕ, zero, suc, ◌+◌, ◌-◌, ◌*◌, ◌/◌, ◌%◌, ◌^◌, ◌≤◌, ◌<◌}
use mathlib.Core.Bool.{Bool, true, false, ◌&&◌, true≢false}
use mathlib.Core.Path.{◌≡◌, refl, sym, ap, subst, ◌∙◌}
use native.Mathlib.Nat.{le_refl, not-le_of_lt, zero-mul, one-mul, mul-zero, mul-one, add-zero, mul_assoc, mul_right_comm, mul-pos, mul-lt-mul_of_pos_right, lt_of_mul-lt-mul_right, sub_self}
use native.Mathlib.Omega.{arith}
use borrow.Author.Tests.{leb-true, leb-false, le-ltb}
use lib.Dec.{T, leb, ltb, eqb, ltb→lt, leb→le, lit<}
use lib.IntN.{ℤ, pos, negsuc}
use lib.Pow.{pow_pos, pow-add, pow-lt}
use lib.Ieee.{Float, fin, binary64, up, down, round, sum, add, sub, mul, neg, fits, of_bits, to_bits, nan, inf}
use lib.Ieee.Bits.{of_bits-to_bits}
use lib.Ieee.Exact.{HasValue, round_exact}
use lib.Ieee.Fits.{down_pos, round-fits, and_l, and_r}
use lib.Ieee.Nearest.{div_same}
use lib.Ieee.Scale.{round_same}
use Rattle.util.proofs.RoundLaws.{unlike_false}

-- ---- a fraction that is a float

-- two floats of one value are one, as their bits are
pub same_float : (x y : Float) (s : Bool) (a c : ℕ) → 0 < c → T (fits binary64 x) → T (fits binary64 y) → HasValue x s a c → HasValue y s a c → x ≡ y
same_float x y s a c C p q v w = sym (of_bits-to_bits binary64 x p) ∙ ap (of_bits binary64) (bits x y v w) ∙ of_bits-to_bits binary64 y q
  where
    size_is : (m : ℕ) (e : ℤ) → m * up e * c ≡ a * down e → m * up e * 2 ^ 1074 / down e ≡ a * 2 ^ 1074 / c
    size_is m e h = div_same (m * up e * 2 ^ 1074) (down e) (a * 2 ^ 1074) c (down_pos e) C (mul_right_comm (m * up e) (2 ^ 1074) c ∙ ap (λ (z : ℕ). z * 2 ^ 1074) h ∙ mul_right_comm a (down e) (2 ^ 1074))

    bits : (x y : Float) → HasValue x s a c → HasValue y s a c → to_bits binary64 x ≡ to_bits binary64 y
    bits nan _ v w = elim v [ ]
    bits (inf _) _ v w = elim v [ ]
    bits (fin t m e) nan v w = elim w [ ]
    bits (fin t m e) (inf _) v w = elim w [ ]
    bits (fin t m e) (fin u n d) v w = unfold to_bits in rw (v.0, w.0, size_is m e v.1, size_is n d w.1) refl

-- 2 ^ e is a whole number of the smallest floats
steps : (e : ℤ) → down e ≤ 2 ^ 1074 → (j : ℕ) × (2 ^ j * down e ≡ up e * 2 ^ 1074)
steps (pos k) h = (k + 1074, mul-one (2 ^ (k + 1074)) ∙ pow-add 2 k 1074)
steps (negsuc k) h = (1074 - suc k, sym (pow-add 2 (1074 - suc k) (suc k)) ∙ ap (λ (i : ℕ). 2 ^ i) (all (suc k) (least (leb (suc k) 1074) refl)) ∙ sym (one-mul (2 ^ 1074)))
  where
    all : (i : ℕ) → i ≤ 1074 → 1074 - i + i ≡ 1074
    all i l = omega arith

    least : (b : Bool) → leb (suc k) 1074 ≡ b → suc k ≤ 1074
    least true e = leb-true (suc k) 1074 e
    least false e = absurd (not-le_of_lt (pow-lt (leb-false (suc k) 1074 e)) h)

-- a number of few digits and a power of two, not too large, is a float
power_value : (s : Bool) (m : ℕ) (e : ℤ) → m < 2 ^ 53 → down e ≤ 2 ^ 1074 → m * up e < 2 ^ 1024 * down e → HasValue (round binary64 s (m * up e) (down e)) s (m * up e) (down e)
power_value s m e l d u =
    let j = steps e d in
    let same : m * up e * 2 ^ 1074 ≡ m * 2 ^ j.0 * down e = mul_assoc m (up e) (2 ^ 1074) ∙ ap (λ (z : ℕ). m * z) (sym j.1) ∙ sym (mul_assoc m (2 ^ j.0) (down e)) in
    let most : 2 ^ 1024 * down e * 2 ^ 1074 ≡ 2 ^ 2098 * down e = mul_right_comm (2 ^ 1024) (down e) (2 ^ 1074) ∙ ap (λ (z : ℕ). z * down e) (sym (pow-add 2 1024 1074)) in
    round_exact binary64 s (m * up e) (down e) m j.0 (down_pos e) l
    (lt_of_mul-lt-mul_right (down e) (subst (λ (z : ℕ). m * 2 ^ j.0 * down e < z) most (subst (λ (z : ℕ). z < 2 ^ 1024 * down e * 2 ^ 1074) same (mul-lt-mul_of_pos_right u (pow_pos 1074)))))
    same

-- a float's own value rounds to it
pub round_own : (s : Bool) (m : ℕ) (e : ℤ) → T (fits binary64 (fin s m e)) → round binary64 s (m * up e) (down e) ≡ fin s m e
round_own s m e h = same_float _ _ s (m * up e) (down e) (down_pos e) (round-fits binary64 s (m * up e) (down e)) h (value m h) (refl, refl)
  where
    value : (m : ℕ) → T (fits binary64 (fin s m e)) → HasValue (round binary64 s (m * up e) (down e)) s (m * up e) (down e)
    value zero h = round_exact binary64 s (0 * up e) (down e) 0 0 (down_pos e) (lit< tt) (pow_pos 2098) (ap (λ (z : ℕ). z * 2 ^ 1074) (zero-mul (up e)) ∙ sym (zero-mul (down e)))
    value (suc m) h =
        let odd = eqb (suc m % 2) 1 in
        let few = ltb (suc m) (2 ^ 53) in
        let fine = leb (down e) (2 ^ 1074) in
        let least = ltb (suc m * up e) (2 ^ 1024 * down e) in
        let t : T (odd && few && fine && least) = unfold fits in h in
        let three = and_l (odd && few && fine) least t in
        power_value s (suc m) e (ltb→lt (suc m) (2 ^ 53) (and_r odd few (and_l (odd && few) fine three))) (leb→le (down e) (2 ^ 1074) (and_r (odd && few) fine three)) (ltb→lt (suc m * up e) (2 ^ 1024 * down e) (and_r (odd && few && fine) least t))

pub round_zero : (s : Bool) (c : ℕ) → 0 < c → round binary64 s 0 c ≡ fin s 0 (pos 0)
round_zero s c C = round_same binary64 s 0 c 0 1 C (lit< tt) (sym (zero-mul c)) ∙ go s
  where
    go : (s : Bool) → round binary64 s 0 1 ≡ fin s 0 (pos 0)
    go true = unfold round in refl
    go false = unfold round in refl

-- ---- operations

alike : (s : Bool) (a b c : ℕ) → sum binary64 s a s b c ≡ round binary64 s (a + b) c
unfolding sum
alike true a b c = refl
alike false a b c = refl

module _ (s : Bool) (m : ℕ) (e : ℤ) where
  pub times_one : T (fits binary64 (fin s m e)) → mul binary64 (fin s m e) (fin false 1 (pos 0)) ≡ fin s m e
  unfolding mul
  times_one h = rw (unlike_false s, mul-one (m * up e), mul-one (down e)) (round_own s m e h)

  -- a zero with the float's sign
  pub times_zero : mul binary64 (fin s m e) (fin false 0 (pos 0)) ≡ fin s 0 (pos 0)
  unfolding mul
  times_zero = rw (unlike_false s, mul-zero (m * up e), mul-one (down e)) (round_zero s (down e) (down_pos e))

  -- .. and the float plus that
  pub plus_zero : T (fits binary64 (fin s m e)) → add binary64 (fin s m e) (fin s 0 (pos 0)) ≡ fin s m e
  unfolding add
  plus_zero h = alike s (m * up e * 1) (0 * down e) (down e * 1) ∙ rw (mul-one (m * up e), zero-mul (down e), add-zero (m * up e), mul-one (down e)) (round_own s m e h)

-- +0 is the difference of two that are the same whole number
pub same_less : (x y : Float) (n : ℕ) → HasValue x false n 1 → HasValue y false n 1 → sub binary64 x y ≡ fin false 0 (pos 0)
unfolding sub add neg sum
same_less nan y n v w = elim v [ ]
same_less (inf _) y n v w = elim v [ ]
same_less (fin false m e) nan n v w = elim w [ ]
same_less (fin false m e) (inf _) n v w = elim w [ ]
same_less (fin true m e) y n v w = absurd (true≢false v.0)
same_less (fin false m e) (fin true l d) n v w = absurd (true≢false w.0)
same_less (fin false m e) (fin false l d) n v w =
    let a = m * up e * down d in
    let b = l * up d * down e in
    let is : b ≡ a = ap (λ (z : ℕ). z * down e) (sym (mul-one (l * up d)) ∙ w.1) ∙ mul_right_comm n (down d) (down e) ∙ ap (λ (z : ℕ). z * down d) (sym v.1 ∙ mul-one (m * up e)) in
    rw (is, le-ltb a a (le_refl a), sub_self a) (round_zero false (down e * down d) (mul-pos (down_pos e) (down_pos d)))
