-- Bit fields. Assumes nothing.
use Rattle.std.specs.Prelude.{ℕ, ◌+◌, ◌-◌, ◌/◌, ◌%◌, ◌^◌, Bool, eqb}

-- bits lo to hi - 1 of x
abbrev pub bits : ℕ → ℕ → ℕ → ℕ
bits x lo hi = x / 2 ^ lo % 2 ^ (hi - lo)

-- whether bit n of x is set
abbrev pub bit : ℕ → ℕ → Bool
bit x n = eqb (bits x n (n + 1)) 1
