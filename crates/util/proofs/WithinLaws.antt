-- Sums, differences and products of bounded floats are bounded, so none is a NaN or an infinity. Assumes nothing.
use mathlib.Core.Path.{◌≡◌, sym, ap, ◌∙◌, subst}
use mathlib.Core.Logic.{◌⊎◌, inl, inr}
use mathlib.Core.Bool.{Bool, true, false, not, ◌&&◌, ◌||◌, beq, cond, true≢false}
use Prim.Native.Nat.{ℕ, ◌+◌, ◌-◌, ◌*◌, ◌^◌, ◌≤◌, ◌<◌}
use native.Mathlib.Nat.{one-mul, lt_of_le_of_lt, le_trans, le_of_eq, le_of_lt, mul-one, mul_comm, mul_assoc, mul_right_comm, mul-le-mul_right, mul-le-mul, le_of_mul-le-mul_right, mul-pos, mul-mul-mul_comm, add-mul}
use native.Mathlib.Omega.{arith}
use lib.Dec.{T, ltb, eqb, eqb→eq, ltb→lt, lit<}
use lib.IntN.{pos}
use lib.Ieee.{Float, inf, fin, binary64, up, down, unlike, round, neg, sum, add, sub, mul, of_int, le, is_nan, nan}
use lib.Ieee.Fits.{down_pos, and_l}
use lib.Pow.{pow-add, pow_mono, pow-lt}
use lib.Ieee.Exact.{HasValue, round_exact}
use lib.Ieee.Back.{round_whole}
use lib.Ieee.Order.{round_mono}
use Rattle.util.specs.Within.{Within, Upto}
use Rattle.util.proofs.RoundLaws.{neg_round, Signed, sign_round}

pub no_nan : (x : Float) (n : ℕ) → Within x n → T (not (is_nan x))
unfolding is_nan
no_nan nan n h = elim h [ ]
no_nan (inf _) n h = elim h [ ]
no_nan (fin s m e) n h = tt

pub within_neg : (x : Float) (n : ℕ) → Within x n → Within (neg x) n
unfolding neg
within_neg nan n h = elim h [ ]
within_neg (inf _) n h = elim h [ ]
within_neg (fin s m e) n h = h

or_split : (a b : Bool) → T (a || b) → T a ⊎ T b
or_split true b t = inl tt
or_split false b t = inr t

lt_or_eq : (a b : ℕ) → T (ltb a b || (eqb a b && true)) → a ≤ b
lt_or_eq a b t = elim (or_split (ltb a b) (eqb a b && true) t) [ inl u ↦ le_of_lt (ltb→lt a b u) | inr u ↦ le_of_eq (eqb→eq a b (and_l (eqb a b) true u)) ]

within_of_le : (x y : Float) (n : ℕ) → Signed x false → HasValue y false n 1 → T (le x y) → Within x n
unfolding le
within_of_le nan y n s v h = elim s [ ]
within_of_le (inf false) nan n s v h = elim v [ ]
within_of_le (inf false) (inf _) n s v h = elim v [ ]
within_of_le (fin false k d) nan n s v h = elim v [ ]
within_of_le (fin false k d) (inf _) n s v h = elim v [ ]
within_of_le (inf true) y n s v h = absurd (true≢false s)
within_of_le (inf false) (fin t m e) n s v h = absurd h
within_of_le (fin true k d) y n s v h = absurd (true≢false s)
within_of_le (fin false k d) (fin true m e) n s v h = absurd (true≢false v.0)
within_of_le (fin false k d) (fin false m e) n s v h =
    le_of_mul-le-mul_right
    (le_trans (lt_or_eq (k * up d * down e) (m * up e * down d) h)
    (le_of_eq (ap (λ (z : ℕ). z * down d) (sym (mul-one (m * up e)) ∙ v.1) ∙ mul_right_comm n (down e) (down d))))
    (down_pos e)

-- a fraction of at most n, a float itself, rounds to a value of at most n
round_upto_float : (n : ℕ) → HasValue (round binary64 false n 1) false n 1 → (s : Bool) (a c : ℕ) → 0 < c → a ≤ n * c → Within (round binary64 s a c) n
round_upto_float n v s a c C h = go s
  where
    plain : Within (round binary64 false a c) n
    plain =
        within_of_le (round binary64 false a c) (round binary64 false n 1) n (sign_round binary64 false a c) v
        (round_mono binary64 a c n 1 C (lit< tt) (le_trans (le_of_eq (mul-one a)) h))

    go : (s : Bool) → Within (round binary64 s a c) n
    go false = plain
    go true = subst (λ (z : Float). Within z n) (neg_round binary64 false a c) (within_neg (round binary64 false a c) n plain)

pub round_within : (s : Bool) (a c n : ℕ) → 0 < c → n ≤ 2 ^ 53 → a ≤ n * c → Within (round binary64 s a c) n
round_within s a c n C N h = round_upto_float n (round_whole binary64 false n N) s a c C h

-- a whole number
pub within_whole : (n k : ℕ) → n ≤ k → k ≤ 2 ^ 53 → Within (of_int binary64 (pos n)) k
unfolding of_int
within_whole n k h l = round_within false n 1 k (lit< tt) l (le_trans h (le_of_eq (sym (mul-one k))))

pub within_le : (x : Float) (p q : ℕ) → p ≤ q → Within x p → Within x q
within_le nan p q l h = elim h [ ]
within_le (inf _) p q l h = elim h [ ]
within_le (fin s m e) p q l h = le_trans h (mul-le-mul_right (down e) l)

-- ---- the operations, with powers of two up to 2 ^ 1023: the exponents add up
power : (k : ℕ) → k ≤ 1023 → HasValue (round binary64 false (2 ^ k) 1) false (2 ^ k) 1
power k h =
    round_exact binary64 false (2 ^ k) 1 1 (k + 1074) (lit< tt) (lit< tt)
    (lt_of_le_of_lt (le_of_eq (one-mul (2 ^ (k + 1074)))) (pow-lt {i = k + 1074} {j = 2098} (omega arith)))
    (sym (mul-one (1 * 2 ^ (k + 1074)) ∙ one-mul (2 ^ (k + 1074)) ∙ pow-add 2 k 1074))

pub round_small : (s : Bool) (a c k : ℕ) → 0 < c → k ≤ 1023 → a ≤ 2 ^ k * c → Within (round binary64 s a c) (2 ^ k)
round_small s a c k C N h = round_upto_float (2 ^ k) (power k N) s a c C h

pub small_mul : (x y : Float) (j k : ℕ) → j + k ≤ 1023 → Within x (2 ^ j) → Within y (2 ^ k) → Within (mul binary64 x y) (2 ^ (j + k))
unfolding mul
small_mul nan y j k L h l = elim h [ ]
small_mul (inf _) y j k L h l = elim h [ ]
small_mul (fin s m e) nan j k L h l = elim l [ ]
small_mul (fin s m e) (inf _) j k L h l = elim l [ ]
small_mul (fin s m e) (fin t n d) j k L h l =
    round_small (unlike s t) (m * up e * (n * up d)) (down e * down d) (j + k) (mul-pos (down_pos e) (down_pos d)) L
    (le_trans (mul-le-mul h l) (le_of_eq (mul-mul-mul_comm (2 ^ j) (down e) (2 ^ k) (down d) ∙ ap (λ (z : ℕ). z * (down e * down d)) (sym (pow-add 2 j k)))))

small_sum : (s : Bool) (a : ℕ) (t : Bool) (b c k : ℕ) → 0 < c → k ≤ 1023 → a + b ≤ 2 ^ k * c → Within (sum binary64 s a t b c) (2 ^ k)
unfolding sum
small_sum s a t b c k C N h = go (beq s t) (ltb a b)
  where
    go : (x y : Bool) → Within (cond x (round binary64 s (a + b) c) (cond y (round binary64 t (b - a) c) (round binary64 (s && ltb b a) (a - b) c))) (2 ^ k)
    go true y = round_small s (a + b) c k C N h
    go false true = round_small t (b - a) c k C N (omega arith)
    go false false = round_small (s && ltb b a) (a - b) c k C N (omega arith)

-- a sum of two values of at most 2 ^ k is at most 2 ^ (k + 1)
pub small_add : (x y : Float) (k : ℕ) → k + 1 ≤ 1023 → Within x (2 ^ k) → Within y (2 ^ k) → Within (add binary64 x y) (2 ^ (k + 1))
unfolding add
small_add nan y k L h l = elim h [ ]
small_add (inf _) y k L h l = elim h [ ]
small_add (fin s m e) nan k L h l = elim l [ ]
small_add (fin s m e) (inf _) k L h l = elim l [ ]
small_add (fin s m e) (fin t n d) k L h l =
    let p = 2 ^ k in
    let a : m * up e * down d ≤ p * (down e * down d) = le_trans (mul-le-mul_right (down d) h) (le_of_eq (mul_assoc p (down e) (down d))) in
    let b : n * up d * down e ≤ p * (down e * down d) = le_trans (mul-le-mul_right (down e) l) (le_of_eq (mul_assoc p (down d) (down e) ∙ ap (λ (z : ℕ). p * z) (mul_comm (down d) (down e)))) in
    small_sum s (m * up e * down d) t (n * up d * down e) (down e * down d) (k + 1) (mul-pos (down_pos e) (down_pos d)) L
    (le_trans (both a b) (le_of_eq (twice p (down e * down d) ∙ ap (λ (z : ℕ). z * (down e * down d)) (sym (pow-add 2 k 1)))))
  where
    both : {a b c d : ℕ} → a ≤ c → b ≤ d → a + b ≤ c + d
    both h k = omega arith

    twice : (p q : ℕ) → p * q + p * q ≡ p * 2 * q
    twice p q = sym (add-mul p p q) ∙ ap (λ (z : ℕ). z * q) (dbl p)
      where
        dbl : (p : ℕ) → p + p ≡ p * 2
        dbl p = omega arith

pub small_sub : (x y : Float) (k : ℕ) → k + 1 ≤ 1023 → Within x (2 ^ k) → Within y (2 ^ k) → Within (sub binary64 x y) (2 ^ (k + 1))
unfolding sub
small_sub x y k L h l = small_add x (neg y) k L h (within_neg y (2 ^ k) l)

pub grow : (x : Float) (j k : ℕ) → j ≤ k → Within x (2 ^ j) → Within x (2 ^ k)
grow x j k l h = within_le x (2 ^ j) (2 ^ k) (pow_mono l) h

-- ---- without a sign

upto_of : (x : Float) (n : ℕ) → Signed x false → Within x n → Upto x n
upto_of nan n s h = elim s [ ]
upto_of (inf _) n s h = elim h [ ]
upto_of (fin t m e) n s h = (s, h)

-- a fraction of at most n rounds to a value of at most n
pub round_upto : (a c n : ℕ) → 0 < c → n ≤ 2 ^ 53 → a ≤ n * c → Upto (round binary64 false a c) n
round_upto a c n C N h = upto_of (round binary64 false a c) n (sign_round binary64 false a c) (round_within false a c n C N h)

pub upto_within : (x : Float) (n : ℕ) → Upto x n → Within x n
upto_within nan n u = elim u [ ]
upto_within (inf _) n u = elim u [ ]
upto_within (fin s m e) n u = u.1
