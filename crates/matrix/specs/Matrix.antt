-- Matrices of floats, column by column. Assumes nothing.
use Rattle.std.specs.Prelude.{ℕ, false, List, [], ◌∷◌, ◌++◌, pos, Float}
use Rattle.std.specs.Float.{fin, binary64}
use Rattle.std.specs.Float.Ieee.{add, sub, mul, to_bits}
use Rattle.util.specs.View.{little_bytes}
use Rattle.matrix.specs.declared.Col3.{Col3}
use Rattle.matrix.specs.declared.Mat3.{Mat3}
use Rattle.matrix.specs.declared.Col4.{Col4}
use Rattle.matrix.specs.declared.Mat4.{Mat4}

-- +0 and 1
abbrev pub f0 : Float
f0 = fin false 0 (pos 0)

abbrev pub f1 : Float
f1 = fin false 1 (pos 0)

abbrev pub col3 : Float → Float → Float → Col3
col3 x y z = record { x = x; y = y; z = z }

abbrev pub col4 : Float → Float → Float → Float → Col4
col4 x y z w = record { x = x; y = y; z = z; w = w }

abbrev pub identity3 : Mat3
identity3 = record { c0 = col3 f1 f0 f0; c1 = col3 f0 f1 f0; c2 = col3 f0 f0 f1 }

-- as 4 by 4 matrices: a translation's fourth column is x, y, z; a rotation's upper left is 3 by 3; a scale's diagonal is x, y, z.
-- All else is as in the identity.
abbrev pub translation4 : Float → Float → Float → Mat4
translation4 x y z = record { c0 = col4 f1 f0 f0 f0; c1 = col4 f0 f1 f0 f0; c2 = col4 f0 f0 f1 f0; c3 = col4 x y z f1 }

abbrev pub extend : Col3 → Col4
extend c = col4 c.x c.y c.z f0

abbrev pub rotation4 : Mat3 → Mat4
rotation4 m = record { c0 = extend m.c0; c1 = extend m.c1; c2 = extend m.c2; c3 = col4 f0 f0 f0 f1 }

abbrev pub scale4 : Float → Float → Float → Mat4
scale4 x y z = record { c0 = col4 x f0 f0 f0; c1 = col4 f0 y f0 f0; c2 = col4 f0 f0 z f0; c3 = col4 f0 f0 f0 f1 }

-- an entry of a product: the sum of four products, added from the left
abbrev pub dot : Float → Float → Float → Float → Col4 → Float
dot a b c d v =
    add binary64 (add binary64 (add binary64 (mul binary64 a v.x) (mul binary64 b v.y)) (mul binary64 c v.z)) (mul binary64 d v.w)

-- m times a column
abbrev pub column : Mat4 → Col4 → Col4
column m v =
    col4
    (dot m.c0.x m.c1.x m.c2.x m.c3.x v)
    (dot m.c0.y m.c1.y m.c2.y m.c3.y v)
    (dot m.c0.z m.c1.z m.c2.z m.c3.z v)
    (dot m.c0.w m.c1.w m.c2.w m.c3.w v)

unfoldable pub product : Mat4 → Mat4 → Mat4
product m n = record { c0 = column m n.c0; c1 = column m n.c1; c2 = column m n.c2; c3 = column m n.c3 }

-- (translation · rotation) · scale
unfoldable pub trs : Col3 → Mat3 → Col3 → Mat4
trs t r s = product (product (translation4 t.x t.y t.z) (rotation4 r)) (scale4 s.x s.y s.z)

-- p q - r s
abbrev pub minor : Float → Float → Float → Float → Float
minor p q r s = sub binary64 (mul binary64 p q) (mul binary64 r s)

-- (y1·z2 - z1·y2, z1·x2 - x1·z2, x1·y2 - y1·x2)
abbrev pub cross : Col3 → Col3 → Col3
cross a b = col3 (minor a.y b.z a.z b.y) (minor a.z b.x a.x b.z) (minor a.x b.y a.y b.x)

-- ---- a matrix as floats, and as bytes

abbrev pub column_floats : Col4 → List Float
column_floats c = c.x ∷ c.y ∷ c.z ∷ c.w ∷ []

-- sixteen floats, column by column
abbrev pub floats_of : Mat4 → List Float
floats_of m = column_floats m.c0 ++ (column_floats m.c1 ++ (column_floats m.c2 ++ column_floats m.c3))

abbrev pub float_bytes : Float → List ℕ
float_bytes x = little_bytes 8 (to_bits binary64 x)

abbrev pub column_bytes : Col4 → List ℕ
column_bytes c = float_bytes c.x ++ (float_bytes c.y ++ (float_bytes c.z ++ float_bytes c.w))

-- sixteen floats of 8 little-endian bytes, column by column
unfoldable pub bytes_of : Mat4 → List ℕ
bytes_of m = column_bytes m.c0 ++ (column_bytes m.c1 ++ (column_bytes m.c2 ++ column_bytes m.c3))
