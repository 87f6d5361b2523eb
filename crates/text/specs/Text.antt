-- Text as bytes: numbers, and lines of a key and a value. Assumes nothing.
use Prim.Native.Char.{code}
use Rattle.std.specs.Prelude.{ℕ, zero, suc, ◌+◌, ◌-◌, ◌*◌, ◌/◌, ◌%◌, cond, List, [], ◌∷◌, ◌++◌, ltb}
use Prim.Native.String.{String}

abbrev pub ascii : String → List ℕ
ascii String.[] = []
ascii (String.◌∷◌ c t) = code c ∷ ascii t

-- ---- numbers

abbrev pub digit : ℕ → ℕ
digit n = 48 + n % 10

-- the last `width` decimal digits, with leading zeros
unfoldable pub digits : ℕ → ℕ → List ℕ
digits zero n = []
digits (suc width) n = digits width (n / 10) ++ (digit n ∷ [])

-- how many decimal digits a number has, at most `most`
unfoldable pub places : ℕ → ℕ → ℕ
places zero n = 0
places (suc most) n = cond (ltb n 10) 1 (suc (places most (n / 10)))

-- twenty digits hold every number of 64 bits
abbrev pub decimal : ℕ → List ℕ
decimal n = digits (places 20 n) n

-- the number that decimal digits tell, if those in front of them told `front`
unfoldable pub numeral_from : ℕ → List ℕ → ℕ
numeral_from front [] = front
numeral_from front (d ∷ ds) = numeral_from (10 * front + (d - 48)) ds

abbrev pub numeral : List ℕ → ℕ
numeral ds = numeral_from 0 ds

-- lower case
abbrev pub hex_digit : ℕ → ℕ
hex_digit n = cond (ltb n 10) (48 + n) (87 + n)

unfoldable pub hex : List ℕ → List ℕ
hex [] = []
hex (b ∷ bs) = hex_digit (b / 16) ∷ hex_digit (b % 16) ∷ hex bs

-- ---- lines

abbrev pub line : String → List ℕ → List ℕ
line key value = ascii key ++ (61 ∷ value) ++ (10 ∷ [])
