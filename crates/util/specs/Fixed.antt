-- The number formats: a sign bit, some whole bits and some fraction bits. Assumes nothing.
use Rattle.std.specs.Prelude.{ℕ, suc, ◌+◌, ◌-◌, ◌%◌, ◌^◌, ◌≤◌, ◌<◌, true, false, cond, ◌≡◌, ltb, ℤ, pos, negsuc, Float}
use Rattle.std.specs.Float.{binary64}
use Rattle.std.specs.Float.Ieee.{round, minus, le}
use Rattle.std.specs.Float.Ieee.Exact.{HasValue}

pub record Fix : Type 0 where
  pub whole : ℕ
  pub fraction : ℕ

abbrev pub fix1_19_12 : Fix
fix1_19_12 = record { whole = 19; fraction = 12 }

abbrev pub fix1_3_12 : Fix
fix1_3_12 = record { whole = 3; fraction = 12 }

abbrev pub fix1_10_5 : Fix
fix1_10_5 = record { whole = 10; fraction = 5 }

abbrev pub fix1_0_12 : Fix
fix1_0_12 = record { whole = 0; fraction = 12 }

-- how many bits a number has
abbrev pub width : Fix → ℕ
width f = 1 + f.whole + f.fraction

-- what the sign bit weighs
abbrev pub half : Fix → ℕ
half f = 2 ^ (f.whole + f.fraction)

-- the float nearest to z / d
unfoldable pub ratio : ℤ → ℕ → Float
ratio (pos n) d = round binary64 false n d
ratio (negsuc n) d = round binary64 true (suc n) d

-- v, or v - 2·sign from `sign` on: what the bits v are worth if the highest of them weighs -sign
abbrev pub twos : ℕ → ℕ → ℤ
twos sign v = cond (ltb v sign) (pos v) (minus v (sign + sign))

-- the low bits of x as a two's-complement integer
abbrev pub integer : Fix → ℕ → ℤ
integer f x = twos (half f) (x % 2 ^ width f)

-- .. divided by a power of two
unfoldable pub fixed : Fix → ℕ → Float
fixed f x = ratio (integer f x) (2 ^ f.fraction)

-- the least value, -half / 2 ^ fraction, and the greatest, (half - 1) / 2 ^ fraction
unfoldable pub least : Fix → Float
least f = ratio (negsuc (half f - 1)) (2 ^ f.fraction)

unfoldable pub greatest : Fix → Float
greatest f = ratio (pos (half f - 1)) (2 ^ f.fraction)

-- the float x is z / d, with nothing rounded
abbrev pub Exactly : Float → ℤ → ℕ → Type 0
Exactly x (pos n) d = HasValue x false n d
Exactly x (negsuc n) d = HasValue x true (suc n) d

-- z is no less than -half and below half (negsuc n is -(n + 1))
abbrev pub InRange : Fix → ℤ → Type 0
InRange f (pos n) = n < half f
InRange f (negsuc n) = n < half f

-- What is promised of a format. Proved of every format in proofs/FixedLaws.antt.
pub record Promises (f : Fix) : Type 0 where
  -- a number of at most 53 bits is the integer of its low bits over the power of two, with nothing rounded
  pub exact : width f ≤ 53 → (x : ℕ) → Exactly (fixed f x) (integer f x) (2 ^ f.fraction)
  -- the sign bit alone reads as the least value, all bits but it as the greatest, and every reading lies between the two
  pub lowest : fixed f (half f) ≡ least f
  pub highest : fixed f (half f - 1) ≡ greatest f
  pub between : (x : ℕ) → (le (least f) (fixed f x) ≡ true) × (le (fixed f x) (greatest f) ≡ true)
