-- What ties the code of a format to its meaning: the constants of its type. Assumes nothing.
use Rattle.std.specs.Prelude.{ℕ}
use Rattle.util.specs.declared.fixed.Limits.{Limits}
use Rattle.util.specs.Fixed.{Fix, least, greatest}

-- the format of so many whole and fraction bits
abbrev pub fix : ℕ → ℕ → Fix
fix whole fraction = record { whole = whole; fraction = fraction }

abbrev pub limits_of : Fix → Limits
limits_of f = record { whole = f.whole; fraction = f.fraction; least = least f; greatest = greatest f }
