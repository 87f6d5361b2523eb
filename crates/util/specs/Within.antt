-- How large a float is: bounds by whole numbers. Assumes nothing.
use Rattle.std.specs.Prelude.{ℕ, ◌*◌, ◌≤◌, ◌<◌, false, ◌≡◌, Float}
use Rattle.std.specs.Float.{nan, inf, fin}
use Rattle.std.specs.Float.Ieee.{up, down}

-- x is finite, and at most n in size
abbrev pub Within : Float → ℕ → Type 0
Within nan n = ⊥
Within (inf s) n = ⊥
Within (fin s m e) n = m * up e ≤ n * down e

-- .. and has no sign
abbrev pub Upto : Float → ℕ → Type 0
Upto nan n = ⊥
Upto (inf s) n = ⊥
Upto (fin s m e) n = (s ≡ false) × (m * up e ≤ n * down e)

-- .. and is below n
abbrev pub Under : Float → ℕ → Type 0
Under nan n = ⊥
Under (inf s) n = ⊥
Under (fin s m e) n = (s ≡ false) × (m * up e < n * down e)
