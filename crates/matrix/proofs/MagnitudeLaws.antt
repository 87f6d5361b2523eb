-- How large the entries of a product are, and that they are numbers. Assumes nothing.
use Prim.Native.Nat.{ℕ, ◌+◌, ◌^◌, ◌≤◌}
use native.Mathlib.Omega.{arith}
use lib.Ieee.{Float, fin, binary64, mul, nan, inf}
use Rattle.util.specs.Within.{Within}
use Rattle.util.proofs.BelowLaws.{Below, below_zero, below_one, below_le, below_add, below_mul}
use Rattle.matrix.specs.declared.Col3.{Col3}
use Rattle.matrix.specs.declared.Mat3.{Mat3}
use Rattle.matrix.specs.declared.Col4.{Col4}
use Rattle.matrix.specs.declared.Mat4.{Mat4}
use Rattle.matrix.specs.Finite.{Finite, FiniteCol, FiniteMat}
use Rattle.matrix.specs.Matrix.{col3, col4, translation4, extend, rotation4, scale4, dot, column, product}

pub below_finite : {k : ℕ} {x : Float} → Below k x → Finite x
below_finite {k} {x} h = go x h.within
  where
    go : (x : Float) → Within x (2 ^ k) → Finite x
    go nan h = elim h [ ]
    go (inf _) h = elim h [ ]
    go (fin s m e) h = tt

-- P of each entry: of a column of three and of four, of a matrix of nine and of sixteen
pub record Three (P : Float → Type 0) (c : Col3) : Type 0 where
  pub x : P c.x
  pub y : P c.y
  pub z : P c.z

pub record Nine (P : Float → Type 0) (m : Mat3) : Type 0 where
  pub c0 : Three P m.c0
  pub c1 : Three P m.c1
  pub c2 : Three P m.c2

pub record Four (P : Float → Type 0) (c : Col4) : Type 0 where
  pub x : P c.x
  pub y : P c.y
  pub z : P c.z
  pub w : P c.w

pub record Sixteen (P : Float → Type 0) (m : Mat4) : Type 0 where
  pub c0 : Four P m.c0
  pub c1 : Four P m.c1
  pub c2 : Four P m.c2
  pub c3 : Four P m.c3

pub three : {P : Float → Type 0} {a b c : Float} → P a → P b → P c → Three P (col3 a b c)
three a b c = record { x = a; y = b; z = c }

pub four : {P : Float → Type 0} {a b c d : Float} → P a → P b → P c → P d → Four P (col4 a b c d)
four a b c d = record { x = a; y = b; z = c; w = d }

-- entries of at most 2 ^ j and 2 ^ k
module _ {j k : ℕ} (L : j + k + 3 ≤ 1023) where
  dot_below : {a b c d : Float} {v : Col4} → Below j a → Below j b → Below j c → Below j d → Four (Below k) v → Below (j + k + 3) (dot a b c d v)
  dot_below p q r s h =
      let n = j + k in
      let two = below_add n (times p h.x) (times q h.y) (omega arith) (omega arith) (omega arith) in
      let three = below_add (n + 1) two (times r h.z) (omega arith) (omega arith) (omega arith) in
      below_le (omega arith) (below_add (n + 1 + 1) three (times s h.w) (omega arith) (omega arith) (omega arith))
    where
      times : {x y : Float} → Below j x → Below k y → Below (j + k) (mul binary64 x y)
      times h l = below_mul h l (omega arith)

  column_below : {m : Mat4} {v : Col4} → Sixteen (Below j) m → Four (Below k) v → Four (Below (j + k + 3)) (column m v)
  column_below h l =
      four (dot_below h.c0.x h.c1.x h.c2.x h.c3.x l) (dot_below h.c0.y h.c1.y h.c2.y h.c3.y l) (dot_below h.c0.z h.c1.z h.c2.z h.c3.z l)
      (dot_below h.c0.w h.c1.w h.c2.w h.c3.w l)

  pub product_below : {m n : Mat4} → Sixteen (Below j) m → Sixteen (Below k) n → Sixteen (Below (j + k + 3)) (product m n)
  unfolding product
  product_below h l = record { c0 = column_below h l.c0; c1 = column_below h l.c1; c2 = column_below h l.c2; c3 = column_below h l.c3 }

pub translation_below : {k : ℕ} {x y z : Float} → Below k x → Below k y → Below k z → Sixteen (Below k) (translation4 x y z)
translation_below x y z =
    record {
      c0 = four below_one below_zero below_zero below_zero;
      c1 = four below_zero below_one below_zero below_zero;
      c2 = four below_zero below_zero below_one below_zero;
      c3 = four x y z below_one;
    }

pub rotation_below : {k : ℕ} {m : Mat3} → Nine (Below k) m → Sixteen (Below k) (rotation4 m)
rotation_below {k} h = record { c0 = more h.c0; c1 = more h.c1; c2 = more h.c2; c3 = four below_zero below_zero below_zero below_one }
  where
    more : {c : Col3} → Three (Below k) c → Four (Below k) (extend c)
    more h = four h.x h.y h.z below_zero

pub scale_below : {k : ℕ} {x y z : Float} → Below k x → Below k y → Below k z → Sixteen (Below k) (scale4 x y z)
scale_below x y z =
    record {
      c0 = four x below_zero below_zero below_zero;
      c1 = four below_zero y below_zero below_zero;
      c2 = four below_zero below_zero z below_zero;
      c3 = four below_zero below_zero below_zero below_one;
    }

pub below_mat : {k : ℕ} {m : Mat4} → Sixteen (Below k) m → FiniteMat m
below_mat {k} h = record { c0 = col h.c0; c1 = col h.c1; c2 = col h.c2; c3 = col h.c3 }
  where
    col : {c : Col4} → Four (Below k) c → FiniteCol c
    col h = record { x = below_finite h.x; y = below_finite h.y; z = below_finite h.z; w = below_finite h.w }
