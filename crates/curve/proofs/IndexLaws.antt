-- The rounded index lies in the list. Assumes nothing.
use mathlib.Core.Path.{◌≡◌, refl, sym, ap, ◌∙◌, subst}
use mathlib.Core.Logic.{◌⊎◌, inl, inr}
use mathlib.Core.Bool.{Bool, true, false, cond, true≢false}
use Prim.Native.Nat.{ℕ, ◌+◌, ◌-◌, ◌*◌, ◌/◌, ◌%◌, ◌^◌, ◌≤◌, ◌<◌}
use native.Mathlib.Nat.{eq-or-lt_of_le, le_trans, le_of_eq, lt_of_le_of_lt, mul-one, one-mul, mul_comm, mul_assoc, mul_left_comm, mul-le-mul_right, mul-lt-mul_of_pos_right, mul-pos, div-lt_iff_lt-mul, mul-mod_left, div-add-mod'}
use native.Mathlib.Omega.{arith}
use lib.Dec.{T, eqb, le→leb, lit≤, lit<}
use lib.IntN.{pos}
use borrow.Author.Tests.{eqb-true, eqb-false}
use lib.Ieee.{Float, fin, binary64, up, down, round, sub, mul, div, of_int, fits, in_float, nan, inf}
use lib.Ieee.Fits.{down_pos, mul-fits}
use lib.Ieee.Exact.{HasValue}
use lib.Ieee.Back.{round_whole}
use lib.Ieee.Nearest.{div_mono}
use lib.Ieee.Scale.{round_same}
use lib.Ieee.Positive.{num, den, den_pos}
use Rattle.util.specs.Within.{Under, Upto}
use Rattle.util.proofs.RoundLaws.{quotient}
use Rattle.util.proofs.WithinLaws.{round_upto}
use Rattle.util.proofs.ExactLaws.{same_less}
use Rattle.matrix.specs.Matrix.{f0}
use Rattle.curve.specs.Curve.{floor, ceil, of_whole, index}

-- a whole number up to 2 ^ 53 is a float as it is
pub exact : {n : ℕ} → n ≤ 2 ^ 53 → T (in_float binary64 (pos n))
unfolding in_float
exact {n} h = le→leb n (2 ^ 53) h

-- ---- the product of such values
prod : (x y : Float) (m n : ℕ) → Upto x m → HasValue y false n 1 → mul binary64 x y ≡ round binary64 false (num x * n) (den x)
unfolding mul
prod nan y m n u w = elim u [ ]
prod (inf _) y m n u w = elim u [ ]
prod (fin false k e) nan m n u w = elim w [ ]
prod (fin false k e) (inf _) m n u w = elim w [ ]
prod (fin true k e) y m n u w = absurd (true≢false u.0)
prod (fin false k e) (fin true l d) m n u w = absurd (true≢false w.0)
prod (fin false k e) (fin false l d) m n u w =
    round_same binary64 false (k * up e * (l * up d)) (down e * down d) (k * up e * n) (down e) (mul-pos (down_pos e) (down_pos d)) (down_pos e)
    (swap (k * up e) (l * up d) (down e) (down d) n w.1)
  where
    swap : (x y p q n : ℕ) → y * 1 ≡ n * q → x * y * p ≡ x * n * (p * q)
    swap x y p q n w = let w' : y ≡ n * q = sym (mul-one y) ∙ w in rw w' (simp (mul_assoc, mul_comm, mul_left_comm))

upto_cross : (x : Float) (n : ℕ) → Upto x n → num x ≤ n * den x
upto_cross nan n u = elim u [ ]
upto_cross (inf _) n u = elim u [ ]
upto_cross (fin s m e) n u = u.1

-- fl (fl (a / b) * m) is at most m, for a ≤ b
pub place_upto : (a b m : ℕ) → 0 < b → a ≤ b → b ≤ 2 ^ 53 → m ≤ 2 ^ 53 → Upto (mul binary64 (div binary64 (of_whole a) (of_whole b)) (of_whole m)) m
unfolding of_int
place_upto a b m B h L M =
    let f = round binary64 false a b in
    let q : div binary64 (of_whole a) (of_whole b) ≡ f = quotient (of_whole a) (of_whole b) false a b (round_whole binary64 false a (le_trans h L)) (round_whole binary64 false b L) B in
    let u : Upto f 1 = round_upto a b 1 B (lit≤ tt) (le_trans h (le_of_eq (sym (one-mul b)))) in
    let p : mul binary64 f (of_whole m) ≡ round binary64 false (num f * m) (den f) = prod f (of_whole m) 1 m u (round_whole binary64 false m M) in
    subst (λ (z : Float). Upto z m) (sym (ap (λ (z : Float). mul binary64 z (of_whole m)) q ∙ p))
    (round_upto (num f * m) (den f) m (den_pos f) M
    (le_trans (mul-le-mul_right m (upto_cross f 1 u)) (le_of_eq (ap (λ (z : ℕ). z * m) (one-mul (den f)) ∙ mul_comm (den f) m))))

-- .. and an f64 holds it
pub index_held : (start end frame n : ℕ) → T (fits binary64 (index start end frame n))
unfolding index
index_held start end frame n = mul-fits binary64 _ _

-- ---- its whole parts
pub under_of : (x : Float) (n k : ℕ) → n < k → Upto x n → Under x k
under_of nan n k h u = elim u [ ]
under_of (inf _) n k h u = elim u [ ]
under_of (fin s m e) n k h u = (u.0, lt_of_le_of_lt u.1 (mul-lt-mul_of_pos_right h (down_pos e)))

pub floor-le : (x : Float) (n : ℕ) → Upto x n → floor x ≤ n
unfolding floor
floor-le x n u = le_trans (div_mono (num x) (den x) n 1 (den_pos x) (lit< tt) (le_trans (le_of_eq (mul-one (num x))) (upto_cross x n u))) (over_one n)
  where
    over_one : (n : ℕ) → n / 1 ≤ n
    over_one n = omega arith

pub floor-le-ceil : (x : Float) → floor x ≤ ceil x
unfolding floor ceil
floor-le-ceil x = omega arith

pub ceil-le : (x : Float) (n : ℕ) → Upto x n → ceil x ≤ n
unfolding floor ceil
ceil-le x n u = go (eqb (num x % den x) 0) refl
  where
    go : (b : Bool) → eqb (num x % den x) 0 ≡ b → num x / den x + cond (eqb (num x % den x) 0) 0 1 ≤ n
    go true e = rw e (let h : num x / den x ≤ n = floor-le x n u in omega arith)
    go false e = rw e (less (eq-or-lt_of_le (upto_cross x n u)))
      where
        less : (num x ≡ n * den x) ⊎ (num x < n * den x) → num x / den x + 1 ≤ n
        less (inl p) = absurd (eqb-false (num x % den x) 0 e (ap (λ (z : ℕ). z % den x) p ∙ mul-mod_left n (den x)))
        less (inr l) = let k : num x / den x < n = (div-lt_iff_lt-mul (den_pos x)).1 l in omega arith

-- a number is its whole part where that is the same from above
all_whole : (x : Float) → floor x ≡ ceil x → num x ≡ floor x * den x
unfolding floor ceil
all_whole x = go (eqb (num x % den x) 0) refl
  where
    go : (b : Bool) → eqb (num x % den x) 0 ≡ b → num x / den x ≡ num x / den x + cond b 0 1 → num x ≡ num x / den x * den x
    go true e h = let r = div-add-mod' (num x) (den x) in let z = eqb-true (num x % den x) 0 e in omega arith
    go false e h = absurd (omega arith)

-- .. and then it is +0 past its whole part
pub no_rest : (x : Float) (n : ℕ) → n ≤ 2 ^ 53 → Upto x n → floor x ≡ ceil x → sub binary64 x (of_whole (floor x)) ≡ f0
no_rest x n N u h = same_less x (of_whole (floor x)) (floor x) (value x u (all_whole x h)) (unfold of_int in round_whole binary64 false (floor x) (le_trans (floor-le x n u) N))
  where
    value : (x : Float) → Upto x n → num x ≡ floor x * den x → HasValue x false (floor x) 1
    value nan u h = elim u [ ]
    value (inf _) u h = elim u [ ]
    value (fin s m e) u h = (u.0, mul-one (m * up e) ∙ h)

-- ---- at a frame between start and end - 1
module _ (start end frame n : ℕ) (h : start < frame) (k : frame + 1 < end) (E : end < 65536) (N : 1 ≤ n) (L : n ≤ 65536) where
  pub index_upto : Upto (index start end frame n) (n - 1)
  unfolding index
  index_upto = place_upto (frame - start) (end - 1 - start) (n - 1) (omega arith) (omega arith) (omega arith) (omega arith)

  pub index_rest : floor (index start end frame n) ≡ ceil (index start end frame n) → sub binary64 (index start end frame n) (of_whole (floor (index start end frame n))) ≡ f0
  index_rest = no_rest (index start end frame n) (n - 1) (omega arith) index_upto

  pub index_under : Under (index start end frame n) 65536
  index_under = under_of (index start end frame n) (n - 1) 65536 (omega arith) index_upto

  pub hi_lt : ceil (index start end frame n) < n
  hi_lt = let c = ceil-le (index start end frame n) (n - 1) index_upto in omega arith

  pub lo_small : floor (index start end frame n) ≤ 2 ^ 53
  lo_small = let c = floor-le (index start end frame n) (n - 1) index_upto in omega arith
