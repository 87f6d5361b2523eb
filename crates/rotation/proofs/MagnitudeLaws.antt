-- How large the entries of a rotation are. Assumes nothing.
use Prim.Native.Nat.{ℕ, ◌+◌}
use mathlib.Core.Bool.{Bool, true, false, cond}
use lib.Dec.{ltb, lit≤}
use lib.Ieee.{Float, binary64, mul, neg}
use Rattle.util.specs.Bits.{bit}
use Rattle.util.specs.Fixed.{fix1_0_12, fixed}
use Rattle.util.proofs.BelowLaws.{Below, Small, below_zero, below_one, below_neg, below_sub, below_mul, below_fixed, small_fixed}
use Rattle.matrix.specs.Matrix.{f1, minor}
use Rattle.matrix.proofs.MagnitudeLaws.{Three, Nine, three}
use Rattle.rotation.specs.Rotation.{Cell, put, placed, placed_col, turned, only_first, pivot_mat, basis_mat}

turned_small : (flags n : ℕ) (x : Float) → Small x → Small (turned flags n x)
unfolding turned
turned_small flags n x h = go (bit flags n)
  where
    go : (t : Bool) → Small (cond t (neg x) x)
    go true = below_neg h
    go false = h

pub pivot_small : (select flags : ℕ) (a b : Float) → Small a → Small b → Nine Small (pivot_mat select flags a b)
unfolding pivot_mat
pivot_small select flags a b h k = go (ltb select 9)
  where
    o : Float
    o = turned flags 0 f1

    c : Float
    c = turned flags 1 b

    d : Float
    d = turned flags 2 a

    at : (p : Cell) → Small (put p o a b c d)
    at Cell.Z = below_zero
    at Cell.O = turned_small flags 0 f1 below_one
    at Cell.A = h
    at Cell.B = k
    at Cell.C = turned_small flags 1 b k
    at Cell.D = turned_small flags 2 a h

    col : (k : ℕ) → Three Small (placed_col select k o a b c d)
    col k = three (at (placed select k)) (at (placed select (k + 1))) (at (placed select (k + 2)))

    go : (t : Bool) → Nine Small (cond t (record { c0 = placed_col select 0 o a b c d; c1 = placed_col select 3 o a b c d; c2 = placed_col select 6 o a b c d }) (only_first a))
    go true = record { c0 = col 0; c1 = col 3; c2 = col 6 }
    go false = record { c0 = three (below_neg h) below_zero below_zero; c1 = three below_zero below_zero below_zero; c2 = three below_zero below_zero below_zero }

pub basis_small : (in0 in1 in2 in3 in4 : ℕ) → Nine Small (basis_mat in0 in1 in2 in3 in4)
unfolding basis_mat
basis_small in0 in1 in2 in3 in4 =
    record {
      c0 = three (small _) (small _) (small _);
      c1 = three (small _) (small _) (small _);
      c2 = three (crossed _ _ _ _) (crossed _ _ _ _) (crossed _ _ _ _);
    }
  where
    small : (x : ℕ) → Small (fixed fix1_0_12 x)
    small x = small_fixed fix1_0_12 (lit≤ tt) x

    times : (x y : ℕ) → Below 64 (mul binary64 (fixed fix1_0_12 x) (fixed fix1_0_12 y))
    times x y = below_mul (below_fixed fix1_0_12 (lit≤ tt) x) (below_fixed fix1_0_12 (lit≤ tt) y) (lit≤ tt)

    crossed : (p q r s : ℕ) → Small (minor (fixed fix1_0_12 p) (fixed fix1_0_12 q) (fixed fix1_0_12 r) (fixed fix1_0_12 s))
    crossed p q r s = below_sub (times p q) (times r s) (lit≤ tt)
