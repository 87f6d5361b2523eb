-- Floats that are numbers, and matrices of them. Assumes nothing.
use Rattle.std.specs.Prelude.{Float}
use Rattle.std.specs.Float.{nan, inf, fin}
use Rattle.matrix.specs.declared.Col4.{Col4}
use Rattle.matrix.specs.declared.Mat4.{Mat4}

-- x is a number: neither a NaN nor an infinity
abbrev pub Finite : Float → Type 0
Finite nan = ⊥
Finite (inf s) = ⊥
Finite (fin s m e) = Unit {0}

-- each of the four entries is a number
pub record FiniteCol (c : Col4) : Type 0 where
  pub x : Finite c.x
  pub y : Finite c.y
  pub z : Finite c.z
  pub w : Finite c.w

-- each of the sixteen entries is a number
pub record FiniteMat (m : Mat4) : Type 0 where
  pub c0 : FiniteCol m.c0
  pub c1 : FiniteCol m.c1
  pub c2 : FiniteCol m.c2
  pub c3 : FiniteCol m.c3
