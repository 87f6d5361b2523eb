-- The code's table: a row is nine octal digits, each the index of a value. Assumes nothing.
use Rattle.std.specs.Prelude.{ℕ, ◌-◌, ◌*◌, ◌/◌, ◌%◌, ◌^◌, List, get_or, Float}
use Rattle.std.specs.Float.{nan}
use Rattle.rotation.specs.Rotation.{Cell, Z, O, A, B, C, D}

-- +0, o, a, b, c and d
abbrev pub index : Cell → ℕ
index Z = 0
index O = 1
index A = 2
index B = 3
index C = 4
index D = 5

-- the digit at place k of a row, counted from the left
unfoldable pub digit : ℕ → ℕ → ℕ
digit row k = row / 2 ^ (24 - 3 * k) % 8

-- .. and the value that has this index
abbrev pub value_at : ℕ → ℕ → List Float → Float
value_at row k values = get_or values (digit row k) nan
