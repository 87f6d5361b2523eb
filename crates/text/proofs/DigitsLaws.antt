-- A number is told by its digits, if there are enough of them. Assumes nothing.
use Prim.Native.Nat.{ℕ, zero, suc, ◌+◌, ◌-◌, ◌*◌, ◌/◌, ◌%◌, ◌^◌, ◌<◌}
use mathlib.Core.List.{List, [], ◌∷◌, ◌++◌}
use mathlib.Core.Path.{◌≡◌, refl, ◌∙◌}
use native.Mathlib.Omega.{arith}
use Rattle.text.specs.Text.{digits, numeral_from, numeral}

numeral_last : (front : ℕ) (ds : List ℕ) (d : ℕ) → numeral_from front (ds ++ (d ∷ [])) ≡ 10 * numeral_from front ds + (d - 48)
unfolding numeral_from
numeral_last front [] d = refl
numeral_last front (x ∷ ds) d = numeral_last (10 * front + (x - 48)) ds d

pub digits_tell : (width n : ℕ) → n < 10 ^ width → numeral (digits width n) ≡ n
unfolding digits numeral_from
digits_tell zero n h = omega arith
digits_tell (suc width) n h =
    let front = digits_tell width (n / 10) (omega arith) in
    numeral_last 0 (digits width (n / 10)) (48 + n % 10) ∙ omega arith
