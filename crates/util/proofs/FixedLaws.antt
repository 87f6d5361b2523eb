-- A number's value is exact, and lies between its format's least and greatest: one law for every format. Assumes nothing.
use Prim.Native.Nat.{ℕ, zero, suc, ◌+◌, ◌-◌, ◌*◌, ◌%◌, ◌^◌, ◌≤◌, ◌<◌}
use mathlib.Core.Bool.{Bool, true, false, cond}
use mathlib.Core.Path.{◌≡◌, refl, sym, ap, subst, ◌∙◌}
use native.Mathlib.Nat.{not-suc-le-zero, mod-lt, mod-eq_of_lt, mul_assoc, mul-le-mul_right, one-mul, div-one, sub-zero, lt_of_lt_of_le}
use native.Mathlib.Omega.{arith}
use borrow.Author.Tests.{ltb-true, ltb-false, lt-ltb, le-ltb, lt-leb}
use lib.Dec.{T, ltb, lit<, le→leb, lt→ltb}
use lib.IntN.{ℤ, pos, negsuc, ◌+ℤ◌, ◌-ℤ◌}
use lib.Signed.{mag}
use mir.Syntax.{w64}
use mir.Val.{SFits, to_z, of_z}
use mir.ValLaws.{to_z-of_z}
use lib.Pow.{pow_pos, pow-add, pow_mono, shl_lt, shl_exact}
use lib.Ieee.{Float, binary64, round, div, minus, of_int, in_float, le}
use lib.Ieee.Bits.{is_true}
use lib.Ieee.Back.{round_whole}
use lib.Ieee.Exact.{HasValue, round_exact}
use lib.Ieee.Order.{round_mono}
use Rattle.util.proofs.RoundLaws.{sign_round, apart, round_falls, quotient}
use Rattle.util.specs.Bits.{bits}
use Rattle.util.specs.Fixed.{Fix, width, half, ratio, twos, integer, fixed, least, greatest, Exactly, InRange, Promises}

back : (k : ℕ) → k ≤ 1074 → 1074 ≡ 1074 - k + k
back k l = omega arith

exact_at : (s : Bool) (n k : ℕ) → n < 2 ^ 53 → k ≤ 1074 → HasValue (round binary64 s n (2 ^ k)) s n (2 ^ k)
exact_at s n k h l =
    round_exact binary64 s n (2 ^ k) n (1074 - k) (pow_pos k) h
    (lt_of_lt_of_le (shl_lt 53 (1074 - k) h) (pow_mono {i = 53 + (1074 - k)} {j = 2098} (omega arith)))
    (ap (λ (z : ℕ). n * 2 ^ z) (back k l) ∙ ap (λ (z : ℕ). n * z) (pow-add 2 (1074 - k) k) ∙ sym (mul_assoc n (2 ^ (1074 - k)) (2 ^ k)))

-- the sign bit's weight, twice
whole_half : (f : Fix) → 2 ^ width f ≡ half f + half f
whole_half f = ap (λ (n : ℕ). 2 ^ n) (regroup f.whole f.fraction) ∙ (pow-add 2 1 (f.whole + f.fraction) ∙ double (half f))
  where
    regroup : (a b : ℕ) → 1 + a + b ≡ 1 + (a + b)
    regroup a b = omega arith

    double : (n : ℕ) → 2 * n ≡ n + n
    double n = omega arith

pub in_range : (f : Fix) (x : ℕ) → InRange f (integer f x)
in_range f x = side (x % 2 ^ width f) (ltb (x % 2 ^ width f) (half f)) refl (subst (λ (n : ℕ). x % 2 ^ width f < n) (whole_half f) (mod-lt x (pow_pos (width f))))
  where
    side : (v : ℕ) (b : Bool) → ltb v (half f) ≡ b → v < half f + half f → InRange f (cond b (pos v) (minus v (half f + half f)))
    side v true e l = ltb-true v (half f) e
    side v false e l = let h : half f ≤ v = ltb-false v (half f) e in rw (lt-leb (half f + half f) v l) (omega arith)

ratio_exact : (f : Fix) → width f ≤ 53 → (z : ℤ) → InRange f z → Exactly (ratio z (2 ^ f.fraction)) z (2 ^ f.fraction)
unfolding ratio
ratio_exact f w (pos n) h = exact_at false n f.fraction (lt_of_lt_of_le h (pow_mono {i = f.whole + f.fraction} {j = 53} (omega arith))) (omega arith)
ratio_exact f w (negsuc n) h = exact_at true (suc n) f.fraction (below n h) (omega arith)
  where
    below : (n : ℕ) → n < half f → suc n < 2 ^ 53
    below n h =
        let a : half f ≤ 2 ^ 52 = pow_mono {i = f.whole + f.fraction} {j = 52} (omega arith) in
        omega arith

pub exact : (f : Fix) → width f ≤ 53 → (x : ℕ) → Exactly (fixed f x) (integer f x) (2 ^ f.fraction)
unfolding fixed
exact f w x = ratio_exact f w (integer f x) (in_range f x)

-- ---- the least and the greatest value

own_integer : (f : Fix) (v : ℕ) → v < half f + half f → integer f v ≡ twos (half f) v
own_integer f v l = ap (twos (half f)) (mod-eq_of_lt (subst (λ (n : ℕ). v < n) (sym (whole_half f)) l))

lowest : (f : Fix) → integer f (half f) ≡ negsuc (half f - 1)
lowest f = let p : 0 < half f = pow_pos (f.whole + f.fraction) in own_integer f (half f) (omega arith) ∙ at_half (half f) p
  where
    at_half : (h : ℕ) → 0 < h → twos h h ≡ negsuc (h - 1)
    at_half h p = simp (le-ltb h h (omega arith), lt-leb (h + h) h (omega arith)) (ap negsuc (omega arith))

highest : (f : Fix) → integer f (half f - 1) ≡ pos (half f - 1)
highest f = let p : 0 < half f = pow_pos (f.whole + f.fraction) in own_integer f (half f - 1) (omega arith) ∙ simp (lt-ltb (half f - 1) (half f) (omega arith))

bounded : (f : Fix) (z : ℤ) → InRange f z → (le (least f) (ratio z (2 ^ f.fraction)) ≡ true) × (le (ratio z (2 ^ f.fraction)) (greatest f) ≡ true)
unfolding least greatest ratio
bounded f (pos n) h =
    let d : 0 < 2 ^ f.fraction = pow_pos f.fraction in (
      apart _ _ (sign_round binary64 true _ _) (sign_round binary64 false _ _),
      is_true _ (round_mono binary64 n _ (half f - 1) _ d d (mul-le-mul_right (2 ^ f.fraction) (omega arith))),
    )
bounded f (negsuc n) h =
    let d : 0 < 2 ^ f.fraction = pow_pos f.fraction in (
      round_falls binary64 (suc n) _ (suc (half f - 1)) _ d d (mul-le-mul_right (2 ^ f.fraction) (omega arith)),
      apart _ _ (sign_round binary64 true _ _) (sign_round binary64 false _ _),
    )

pub promises : (f : Fix) → Promises f
unfolding fixed least greatest
promises f =
    record {
      exact = exact f;
      lowest = ap (λ (z : ℤ). ratio z (2 ^ f.fraction)) (lowest f);
      highest = ap (λ (z : ℤ). ratio z (2 ^ f.fraction)) (highest f);
      between = λ x. bounded f (integer f x) (in_range f x);
    }

-- ---- what the code of each format does

-- a number below 2 ^ 33 is itself in a signed word of 64 bits
plain : (n : ℕ) → n < 2 ^ 33 → to_z w64 n ≡ pos n
plain n h = to_z-of_z w64 (pos n) (record { sfits = omega arith })

less : (v w : ℕ) → v < w → pos v -ℤ pos w ≡ minus v w
less v zero h = absurd (not-suc-le-zero h)
less v (suc w) h = simp (lt-ltb v (suc w) h, lt-leb (suc w) v h)

-- a two's-complement number in a signed word of 64 bits
module _ (sign v : ℕ) (s : sign < 2 ^ 32) (l : v < sign + sign) where
  small_twos : mag (twos sign v) < 2 ^ 32
  small_twos = side (ltb v sign) refl
    where
      side : (b : Bool) → ltb v sign ≡ b → mag (cond b (pos v) (minus v (sign + sign))) < 2 ^ 32
      side true e = let h : v < sign = ltb-true v sign e in omega arith
      side false e = let h : sign ≤ v = ltb-false v sign e in rw (lt-leb (sign + sign) v l) (omega arith)

  twos_fits : SFits w64 (twos sign v)
  twos_fits = record { sfits = omega (arith, small_twos) }

  pub twos_back : to_z w64 (of_z w64 (twos sign v)) ≡ twos sign v
  twos_back = to_z-of_z w64 (twos sign v) twos_fits

  pub twos_in_float : T (in_float binary64 (twos sign v))
  twos_in_float = held (twos sign v) small_twos
    where
      held : (z : ℤ) → mag z < 2 ^ 32 → T (in_float binary64 z)
      held (pos n) h = unfold in_float in le→leb n _ (omega arith)
      held (negsuc n) h = unfold in_float in lt→ltb n _ (omega arith)

  -- below the sign bit's weight
  pub lower : v < sign → to_z w64 v ≡ twos sign v
  lower h = plain v (omega arith) ∙ simp (lt-ltb v sign h)

  -- from it on: less twice the weight
  pub double_fits : SFits w64 (to_z w64 sign +ℤ to_z w64 sign)
  double_fits = rw (plain sign (omega arith)) (record { sfits = omega arith })

  module _ (h : sign ≤ v) where
    pub upper : to_z w64 v -ℤ to_z w64 (of_z w64 (to_z w64 sign +ℤ to_z w64 sign)) ≡ twos sign v
    upper =
        rw (plain v (omega arith), plain sign (omega arith), plain (sign + sign) (omega arith))
        (less v (sign + sign) l ∙ simp (le-ltb v sign h))

    pub upper_fits : SFits w64 (to_z w64 v -ℤ to_z w64 (of_z w64 (to_z w64 sign +ℤ to_z w64 sign)))
    upper_fits = rw upper twos_fits

-- 1 shifted left in a word of 32 bits
power : (k : ℕ) → k < 32 → 1 * 2 ^ k % 2 ^ 32 ≡ 2 ^ k
power k h = shl_exact {a = 1} 1 k 32 (lit< tt) (omega arith) ∙ one-mul (2 ^ k)

module _ (f : Fix) (w : width f ≤ 32) where
  small : half f ≤ 2 ^ 53
  small = pow_mono {i = f.whole + f.fraction} {j = 53} (omega arith)

  over : HasValue (round binary64 false (2 ^ f.fraction) 1) false (2 ^ f.fraction) 1
  over = round_whole binary64 false (2 ^ f.fraction) (pow_mono {i = f.fraction} {j = 53} (omega arith))

  -- a float of the integer over one of the power of two: one rounding
  divided : (z : ℤ) → InRange f z → div binary64 (of_int binary64 z) (of_int binary64 (pos (2 ^ f.fraction))) ≡ ratio z (2 ^ f.fraction)
  unfolding of_int ratio
  divided (pos n) h = quotient _ _ false n _ (round_whole binary64 false n (omega (arith, small))) over (pow_pos f.fraction)
  divided (negsuc n) h = quotient _ _ true (suc n) _ (round_whole binary64 true (suc n) (omega (arith, small))) over (pow_pos f.fraction)

  module _ (n : ℕ) (all : n ≡ width f) (x v : ℕ) (low : v ≡ bits x 0 n) where
    low_bits : v ≡ x % 2 ^ width f
    low_bits = low ∙ simp (div-one, sub-zero, all)

    sign_bit : 1 * 2 ^ (n - 1) % 2 ^ 32 ≡ half f
    sign_bit = power (n - 1) (omega arith) ∙ ap (λ (k : ℕ). 2 ^ k) (omega arith)

    -- the low bits are below twice the sign bit's weight
    pub signed_fits : v < 1 * 2 ^ (n - 1) % 2 ^ 32 + 1 * 2 ^ (n - 1) % 2 ^ 32
    signed_fits = rw (sign_bit, ← whole_half f, low_bits) (mod-lt x (pow_pos (width f)))

    -- as a signed number, over the power of two, they are the format's reading
    pub number_law : (r : Float) → r ≡ of_int binary64 (twos (1 * 2 ^ (n - 1) % 2 ^ 32) v) → div binary64 r (of_int binary64 (pos (1 * 2 ^ f.fraction % 2 ^ 32))) ≡ fixed f x
    unfolding fixed
    number_law r e = rw (e, sign_bit, power f.fraction (omega arith), low_bits) (divided (integer f x) (in_range f x))
