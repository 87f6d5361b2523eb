-- The room for text, and a line of it. Assumes nothing.
use Rattle.std.specs.Prelude.{ℕ, List, [], ◌∷◌, ◌++◌}

-- room for every text: a listing is the longest
abbrev pub room : ℕ
room = 65536

-- a line, from its key with the sign after it and its value
abbrev pub keyed : List ℕ → List ℕ → List ℕ
keyed key value = key ++ value ++ (10 ∷ [])
