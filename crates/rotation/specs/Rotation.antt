-- Rotations: pivot and basis matrices. Assumes nothing.
use Rattle.std.specs.Prelude.{ℕ, ◌+◌, ◌*◌, cond, List, [], ◌∷◌, ltb, get_or, Float}
use Rattle.std.specs.Float.Ieee.{neg}
use Rattle.util.specs.Bits.{bits, bit}
use Rattle.util.specs.Fixed.{fix1_0_12, fixed}
use Rattle.matrix.specs.declared.Col3.{Col3}
use Rattle.matrix.specs.declared.Mat3.{Mat3}
use Rattle.matrix.specs.Matrix.{f0, f1, col3, cross}

-- ---- pivot_mat

-- what stands at a place of the matrix: one of the five values, or +0
pub data Cell : Type 0 where
  Z O A B C D : Cell

-- by select, column by column
abbrev pub rows : List (List Cell)
rows =
    (O ∷ Z ∷ Z ∷ Z ∷ A ∷ B ∷ Z ∷ C ∷ D ∷ [])
    ∷ (Z ∷ O ∷ Z ∷ A ∷ Z ∷ B ∷ C ∷ Z ∷ D ∷ [])
    ∷ (Z ∷ Z ∷ O ∷ A ∷ B ∷ Z ∷ C ∷ D ∷ Z ∷ [])
    ∷ (Z ∷ A ∷ B ∷ O ∷ Z ∷ Z ∷ Z ∷ C ∷ D ∷ [])
    ∷ (A ∷ Z ∷ B ∷ Z ∷ O ∷ Z ∷ C ∷ Z ∷ D ∷ [])
    ∷ (A ∷ B ∷ Z ∷ Z ∷ Z ∷ O ∷ C ∷ D ∷ Z ∷ [])
    ∷ (Z ∷ A ∷ B ∷ Z ∷ C ∷ D ∷ O ∷ Z ∷ Z ∷ [])
    ∷ (A ∷ Z ∷ B ∷ C ∷ Z ∷ D ∷ Z ∷ O ∷ Z ∷ [])
    ∷ (A ∷ B ∷ Z ∷ C ∷ D ∷ Z ∷ Z ∷ Z ∷ O ∷ [])
    ∷ []

unfoldable pub placed : ℕ → ℕ → Cell
placed select k = get_or (get_or rows select []) k Z

-- x, negated if bit n of `flags` is set; negation flips the sign of zero too
unfoldable pub turned : ℕ → ℕ → Float → Float
turned flags n x = cond (bit flags n) (neg x) x

abbrev pub put : Cell → Float → Float → Float → Float → Float → Float
put Z o a b c d = f0
put O o a b c d = o
put A o a b c d = a
put B o a b c d = b
put C o a b c d = c
put D o a b c d = d

-- three entries of the matrix from k on
abbrev pub placed_col : ℕ → ℕ → Float → Float → Float → Float → Float → Col3
placed_col select k o a b c d = col3 (put (placed select k) o a b c d) (put (placed select (k + 1)) o a b c d) (put (placed select (k + 2)) o a b c d)

-- a select of 9..15: -a in the first entry
abbrev pub only_first : Float → Mat3
only_first a = record { c0 = col3 (neg a) f0 f0; c1 = col3 f0 f0 f0; c2 = col3 f0 f0 f0 }

-- o is 1, c is b, d is a, each negated by its bit of neg
unfoldable pub pivot_mat : ℕ → ℕ → Float → Float → Mat3
pivot_mat select neg a b =
    let o = turned neg 0 f1 in
    let c = turned neg 1 b in
    let d = turned neg 2 a in
    cond (ltb select 9)
    (record { c0 = placed_col select 0 o a b c d; c1 = placed_col select 3 o a b c d; c2 = placed_col select 6 o a b c d })
    (only_first a)

-- ---- basis_mat

-- the low three bits of in4, in0, in1, in2, in3, in4's highest, and of those 15 the low 13
abbrev pub joined : ℕ → ℕ → ℕ → ℕ → ℕ → ℕ
joined in0 in1 in2 in3 in4 =
    bits ((((bits in4 0 3 * 8 + bits in0 0 3) * 8 + bits in1 0 3) * 8 + bits in2 0 3) * 8 + bits in3 0 3) 0 13

-- the high thirteen bits of a word, as 1.0.12
abbrev pub high : ℕ → Float
high x = fixed fix1_0_12 (bits x 3 16)

abbrev pub basis1 : ℕ → ℕ → ℕ → Col3
basis1 in0 in1 in2 = col3 (high in0) (high in1) (high in2)

abbrev pub basis2 : ℕ → ℕ → ℕ → ℕ → ℕ → Col3
basis2 in0 in1 in2 in3 in4 = col3 (high in3) (high in4) (fixed fix1_0_12 (joined in0 in1 in2 in3 in4))

unfoldable pub basis_mat : ℕ → ℕ → ℕ → ℕ → ℕ → Mat3
basis_mat in0 in1 in2 in3 in4 =
    let one = basis1 in0 in1 in2 in
    let two = basis2 in0 in1 in2 in3 in4 in
    record { c0 = one; c1 = two; c2 = cross one two }
