-- What the libraries print is what the specs tell. Assumes nothing.
use Prim.Native.Nat.{ℕ, zero, suc, ◌+◌, ◌/◌, ◌%◌, ◌^◌, ◌<◌}
use mathlib.Core.Bool.{Bool, true, ◌&&◌}
use mathlib.Core.List.{List, [], ◌∷◌}
use mathlib.Core.Path.{◌≡◌, refl, sym}
use native.Mathlib.Omega.{arith}
use lib.Dec.{eqb}
use lib.ListN.{get_or}
use Rattle.std.specs.Fmt as std
use Rattle.std.proofs.lemmas.Fmt.{AppendsLastDigit, decimal_from_appends, length-decimal-le}
use Rattle.std.proofs.lemmas.Bool.{eqb-true}
use Rattle.std.proofs.lemmas.Grind.{common_steps}
use borrow.Author.Tests.{lt-ltb, le-ltb}
use Rattle.std.specs.Prelude.{slice_index}
use Rattle.hex.specs.Hex.{lower_digits, encode_lower, encode_with}
use Rattle.text.specs.Text.{digits, places, decimal, hex_digit, hex}

appends : AppendsLastDigit (λ most n. digits (places most n) n)
unfolding digits places
appends =
    record {
      one = λ k n h. let e : 48 + n % 10 ≡ 48 + n = omega arith in rw (lt-ltb n 10 h, e) refl;
      more = λ k n h. rw (le-ltb n 10 h) refl;
    }

pub decimal_printed : (n : ℕ) → n < 2 ^ 64 → std.decimal n ≡ decimal n
decimal_printed n h = sym (decimal_from_appends _ appends 20 n h (length-decimal-le 20 n (omega arith) (omega arith) h))

-- the two tables of digits, up to n
agree : ℕ → Bool
agree zero = true
agree (suc n) = eqb (slice_index lower_digits n) (hex_digit n) && agree n

agree_below : (m n : ℕ) → n < m → agree m ≡ true → slice_index lower_digits n ≡ hex_digit n
unfolding agree
agree_below zero n h e = absurd (omega arith)
agree_below (suc m) n h e = grind (arith, common_steps, eqb-true (slice_index lower_digits m) (hex_digit m), agree_below m n)

nibble : (n : ℕ) → n < 16 → slice_index lower_digits n ≡ hex_digit n
unfolding agree
nibble n h = agree_below 16 n h refl

pub hex_printed : (bytes : List ℕ) → ((i : ℕ) → get_or bytes i 0 < 256) → encode_lower bytes ≡ hex bytes
unfolding encode_with hex
hex_printed [] h = refl
hex_printed (b ∷ bytes) h =
    let l : b < 256 = h 0 in
    rw (nibble (b / 16) (omega arith), nibble (b % 16) (omega arith), hex_printed bytes (λ i. h (suc i))) refl
