-- A shift and a mask give a bit field, at every width. Assumes nothing.
use Prim.Native.Nat.{ℕ, ◌+◌, ◌-◌, ◌/◌, ◌^◌, ◌≤◌, ◌<◌}
use mathlib.Core.Path.{◌≡◌, ap, ◌∙◌}
use native.Mathlib.Omega.{arith}
use lib.Bits.{bit_and, and_mask}
use lib.Pow.{ones_split, ones_lt, high}
use Rattle.util.specs.Bits.{bits}

-- n ones, and k places cut off below them
ones : (n k : ℕ) → (2 ^ (n + k) - 1) / 2 ^ k ≡ 2 ^ n - 1
ones n k = ap (λ (z : ℕ). z / 2 ^ k) (ones_split n k) ∙ high (2 ^ n - 1) k (ones_lt k)

split : (w n : ℕ) → n ≤ w → w ≡ n + (w - n)
split w n h = omega arith

pub field_is : (w x lo hi : ℕ) → lo < hi → hi ≤ w → bit_and (x / 2 ^ lo) ((2 ^ w - 1) / 2 ^ (w - (hi - lo))) ≡ bits x lo hi
field_is w x lo hi h l =
    let n = hi - lo in
    ap (λ (z : ℕ). bit_and (x / 2 ^ lo) ((2 ^ z - 1) / 2 ^ (w - n))) (split w n (omega arith)) ∙ (ap (bit_and (x / 2 ^ lo)) (ones n (w - n)) ∙ and_mask (x / 2 ^ lo) n)
