-- How large sums, differences, products and numbers of a format are, by powers of two. Assumes nothing.
use Prim.Native.Nat.{ℕ, suc, ◌+◌, ◌*◌, ◌^◌, ◌≤◌}
use mathlib.Core.Bool.{true, false}
use native.Mathlib.Nat.{le_trans, le_of_lt, le-mul_of_pos_right}
use native.Mathlib.Omega.{arith}
use lib.Dec.{T, lit≤}
use lib.IntN.{ℤ, pos, negsuc}
use lib.Pow.{pow_pos, pow_mono}
use lib.Ieee.{Float, fin, binary64, add, sub, mul, neg, fits}
use lib.Ieee.Fits.{round-fits, neg-fits, add-fits, sub-fits, mul-fits}
use Rattle.util.specs.Fixed.{Fix, width, half, ratio, integer, fixed, InRange}
use Rattle.util.specs.Within.{Within}
use Rattle.util.proofs.FixedLaws.{in_range}
use Rattle.util.proofs.WithinLaws.{round_small, small_mul, small_add, small_sub, grow, within_neg}

-- x is a number that an f64 holds, at most 2 ^ k in size
pub record Below (k : ℕ) (x : Float) : Type 0 where
  pub held : T (fits binary64 x)
  pub within : Within x (2 ^ k)

pub below_zero : {k : ℕ} → Below k (fin false 0 (pos 0))
below_zero {k} = record { held = unfold fits in tt; within = let p = pow_pos k in omega arith }

pub below_one : {k : ℕ} → Below k (fin false 1 (pos 0))
below_one {k} = record { held = unfold fits in tt; within = let p = pow_pos k in omega arith }

pub below_le : {j k : ℕ} {x : Float} → j ≤ k → Below j x → Below k x
below_le {x} l h = record { held = h.held; within = grow x _ _ l h.within }

pub below_neg : {k : ℕ} {x : Float} → Below k x → Below k (neg x)
below_neg h = record { held = neg-fits binary64 _ h.held; within = within_neg _ _ h.within }

pub below_add : {j k : ℕ} {x y : Float} (n : ℕ) → Below j x → Below k y → j ≤ n → k ≤ n → n ≤ 1022 → Below (n + 1) (add binary64 x y)
below_add {x} {y} n h l p q L = record { held = add-fits binary64 x y; within = small_add _ _ n (omega arith) (grow x _ n p h.within) (grow y _ n q l.within) }

pub below_sub : {k : ℕ} {x y : Float} → Below k x → Below k y → k ≤ 1022 → Below (k + 1) (sub binary64 x y)
below_sub {x} {y} h l L = record { held = sub-fits binary64 x y; within = small_sub _ _ _ (omega arith) h.within l.within }

pub below_mul : {j k : ℕ} {x y : Float} → Below j x → Below k y → j + k ≤ 1023 → Below (j + k) (mul binary64 x y)
below_mul {x} {y} h l L = record { held = mul-fits binary64 x y; within = small_mul _ _ _ _ L h.within l.within }

ratio_within : (f : Fix) → width f ≤ 32 → (z : ℤ) → InRange f z → Within (ratio z (2 ^ f.fraction)) (2 ^ 32)
unfolding ratio
ratio_within f w z h = go z h
  where
    top : (n : ℕ) → n ≤ half f → n ≤ 2 ^ 32 * 2 ^ f.fraction
    top n l = le_trans (le_trans l (pow_mono {i = f.whole + f.fraction} {j = 32} (omega arith))) (le-mul_of_pos_right (2 ^ 32) (pow_pos f.fraction))

    go : (z : ℤ) → InRange f z → Within (ratio z (2 ^ f.fraction)) (2 ^ 32)
    go (pos n) h = round_small false n (2 ^ f.fraction) 32 (pow_pos f.fraction) (lit≤ tt) (top n (le_of_lt h))
    go (negsuc n) h = round_small true (suc n) (2 ^ f.fraction) 32 (pow_pos f.fraction) (lit≤ tt) (top (suc n) h)

-- a number of at most 32 bits, in any format
fixed_within : (f : Fix) → width f ≤ 32 → (x : ℕ) → Within (fixed f x) (2 ^ 32)
unfolding fixed
fixed_within f w x = ratio_within f w (integer f x) (in_range f x)

fixed_held : (f : Fix) (x : ℕ) → T (fits binary64 (fixed f x))
unfolding fixed ratio
fixed_held f x = go (integer f x)
  where
    go : (z : ℤ) → T (fits binary64 (ratio z (2 ^ f.fraction)))
    go (pos n) = round-fits binary64 false n _
    go (negsuc n) = round-fits binary64 true (suc n) _

-- what a curve holds, and what is sampled of it
abbrev pub Small : Float → Type 0
Small = Below 65

abbrev pub Mixed : Float → Type 0
Mixed = Below 84

pub below_fixed : (f : Fix) → width f ≤ 32 → (x : ℕ) → Below 32 (fixed f x)
below_fixed f w x = record { held = fixed_held f x; within = fixed_within f w x }

pub small_fixed : (f : Fix) → width f ≤ 32 → (x : ℕ) → Small (fixed f x)
small_fixed f w x = below_le (lit≤ tt) (below_fixed f w x)
