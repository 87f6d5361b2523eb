-- How long numbers, names and lines are. Assumes nothing.
use Prim.Native.Nat.{ℕ, zero, suc, ◌+◌, ◌*◌, ◌/◌, ◌≤◌}
use Prim.Native.String.{String}
use mathlib.Core.List.{List, [], ◌∷◌, ◌++◌}
use mathlib.Core.Path.{◌≡◌, refl}
use native.Mathlib.Omega.{arith}
use borrow.Author.Tests.{lt-ltb, le-ltb}
use lib.ListN.{length, length-append}
use Rattle.std.proofs.Common.{inl, inr}
use Rattle.std.proofs.lemmas.Bool.{cases_lt}
use Rattle.text.specs.Text.{ascii, digit, digits, places, decimal, hex, line}

pub length-digits : (width n : ℕ) → length (digits width n) ≡ width
unfolding digits
length-digits zero n = refl
length-digits (suc width) n = omega (arith, length-append (digits width (n / 10)) (digit n ∷ []), length-digits width (n / 10))

places_few : (most n : ℕ) → places most n ≤ most
unfolding places
places_few zero n = omega arith
places_few (suc most) n =
    elim (cases_lt n 10) [
      | inl l ↦ rw (lt-ltb n 10 l) (omega arith)
      | inr h ↦ rw (le-ltb n 10 h) (omega (arith, places_few most (n / 10)))
    ]

pub decimal_short : (n : ℕ) → length (decimal n) ≤ 20
decimal_short n = omega (arith, length-digits (places 20 n) n, places_few 20 n)

pub length-hex : (bytes : List ℕ) → length (hex bytes) ≡ 2 * length bytes
unfolding hex
length-hex [] = refl
length-hex (b ∷ bytes) = let h = length-hex bytes in omega arith

-- the sign and the line's end
pub length-line : (key : String) (value : List ℕ) → length (line key value) ≡ length (ascii key) + length value + 2
length-line key value = omega (arith, length-append (ascii key ++ (61 ∷ value)) (10 ∷ []), length-append (ascii key) (61 ∷ value))
