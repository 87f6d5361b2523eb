-- The table's rule, proved over its rows; the joined low bits. Assumes nothing.
use Prim.Native.Nat.{ℕ, zero, suc, ◌+◌, ◌*◌, ◌/◌, ◌%◌, ◌<◌}
use mathlib.Core.Bool.{Bool, true, ◌&&◌}
use mathlib.Core.List.{List, [], ◌∷◌, map}
use mathlib.Core.Path.{◌≡◌, refl, ap, ◌∙◌}
use native.Mathlib.Nat.{le_of_suc-le-suc, not-suc-le-zero, mod-lt}
use native.Mathlib.Omega.{arith}
use borrow.Author.Tests.{lt-ltb}
use lib.Bits.{bit_and, bit_or, and_mask, or_shifted}
use lib.Dec.{T, eqb, eqb→eq, lit<}
use lib.Ieee.{Float, nan}
use lib.Ieee.Fits.{and_l, and_r}
use lib.ListN.{get_or}
use lib.Pow.{pow_pos}
use Rattle.util.specs.Bits.{bits}
use Rattle.matrix.specs.declared.Col3.{Col3}
use Rattle.matrix.specs.Matrix.{f0, f1, col3}
use Rattle.rotation.specs.RotationCode.{index, digit, value_at}
use Rattle.rotation.specs.Rotation.{Cell, Z, O, A, B, C, D, rows, placed, put, placed_col, turned, pivot_mat, joined}

-- ---- the table

-- a row's indices, as octal digits
abbrev octal : ℕ → List Cell → ℕ
octal n [] = n
octal n (p ∷ ps) = octal (8 * n + index p) ps

abbrev table : List ℕ
table = map (octal 0) rows

-- a test at each number below n
each : ℕ → (ℕ → Bool) → Bool
each zero f = true
each (suc n) f = f 0 && each n (λ k. f (suc k))

at : (n : ℕ) (f : ℕ → Bool) → T (each n f) → (k : ℕ) → k < n → T (f k)
unfolding each
at zero f t k h = absurd (not-suc-le-zero h)
at (suc n) f t zero h = and_l (f 0) _ t
at (suc n) f t (suc k) h = at n (λ (i : ℕ). f (suc i)) (and_r (f 0) _ t) k (le_of_suc-le-suc h)

rule : (s k : ℕ) → s < 9 → k < 9 → digit (get_or table s 0) k ≡ index (placed s k)
unfolding each digit placed
rule s k h l = eqb→eq _ _ (at 9 (right s) (at 9 (λ (i : ℕ). each 9 (right i)) tt s h) k l)
  where
    right : ℕ → ℕ → Bool
    right i j = eqb (digit (get_or table i 0) j) (index (placed i j))

module _ (s : ℕ) (h : s < 9) where
  -- every index has a value
  under : (k : ℕ) → k < 9 → digit (get_or table s 0) k < 6
  under k l = rw (rule s k h l) (cell (placed s k))
    where
      cell : (p : Cell) → index p < 6
      cell Z = lit< tt
      cell O = lit< tt
      cell A = lit< tt
      cell B = lit< tt
      cell C = lit< tt
      cell D = lit< tt

  pub under_three : (k : ℕ) → k < 7 → (k < 7) × (digit (get_or table s 0) k < 6) × (digit (get_or table s 0) (k + 1) < 6) × (digit (get_or table s 0) (k + 2) < 6)
  under_three k l = (l, under k (omega arith), under (k + 1) (omega arith), under (k + 2) (omega arith))

  -- the value at a place's index is the one that is put there
  module _ (o a b c d : Float) where
    abbrev values : List Float
    values = f0 ∷ o ∷ a ∷ b ∷ c ∷ d ∷ []

    value : (k : ℕ) → k < 9 → value_at (get_or table s 0) k values ≡ put (placed s k) o a b c d
    value k l = rw (rule s k h l) (cell (placed s k))
      where
        cell : (p : Cell) → get_or values (index p) nan ≡ put p o a b c d
        cell Z = refl
        cell O = refl
        cell A = refl
        cell B = refl
        cell C = refl
        cell D = refl

    abbrev three : ℕ → Col3
    three k = col3 (value_at (get_or table s 0) k values) (value_at (get_or table s 0) (k + 1) values) (value_at (get_or table s 0) (k + 2) values)

    three_placed : (k : ℕ) → k < 7 → three k ≡ placed_col s k o a b c d
    three_placed k l = rw (value k (omega arith), value (k + 1) (omega arith), value (k + 2) (omega arith)) refl

    pub by_columns : (neg : ℕ) → o ≡ turned neg 0 f1 → c ≡ turned neg 1 b → d ≡ turned neg 2 a
        → (x y z : Col3) → x ≡ three 0 → y ≡ three 3 → z ≡ three 6 → record { c0 = x; c1 = y; c2 = z } ≡ pivot_mat s neg a b
    unfolding pivot_mat
    by_columns neg eo ec ed x y z ex ey ez =
        rw (lt-ltb s 9 h, ← eo, ← ec, ← ed, ex ∙ three_placed 0 (lit< tt), ey ∙ three_placed 3 (lit< tt), ez ∙ three_placed 6 (lit< tt)) refl

-- ---- the joined low bits

whole : (x : ℕ) → x < 8192 → x * 8 % 65536 ≡ x * 8
whole x h = omega arith

low_three : (y : ℕ) → bit_and y 7 ≡ bits y 0 3
low_three y = and_mask y 3 ∙ one y
  where
    one : (y : ℕ) → y % 8 ≡ y / 1 % 8
    one y = omega arith

-- three more bits below x
push : (x y : ℕ) → x < 8192 → bit_or (x * 8 % 65536) (bit_and y 7) ≡ x * 8 + bits y 0 3
push x y h =
    ap (λ (z : ℕ). bit_or z (bit_and y 7)) (whole x h)
    ∙ (ap (bit_or (x * 8)) (low_three y) ∙ or_shifted x 3 (bits y 0 3) (mod-lt (y / 1) (pow_pos 3)))

pub low_joined : (a b c d e : ℕ)
    → bit_and (bit_or (bit_or (bit_or (bit_or (bit_and e 7 * 8 % 65536) (bit_and a 7) * 8 % 65536) (bit_and b 7) * 8 % 65536) (bit_and c 7) * 8 % 65536) (bit_and d 7)) 8191 ≡ joined a b c d e
low_joined a b c d e =
    let v = bits e 0 3 in
    let w = v * 8 + bits a 0 3 in
    let x = w * 8 + bits b 0 3 in
    let y = x * 8 + bits c 0 3 in
    simp (low_three e, push v a (omega arith), push w b (omega arith), push x c (omega arith), push y d (omega arith))
    (and_mask (y * 8 + bits d 0 3) 13 ∙ one (y * 8 + bits d 0 3))
  where
    one : (y : ℕ) → y % 8192 ≡ y / 1 % 8192
    one y = omega arith
