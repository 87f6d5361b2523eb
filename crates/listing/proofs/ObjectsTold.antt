-- What stands after objects= tells the objects of every accepted entry. Assumes nothing.
use Prim.Native.Nat.{ℕ}
use mathlib.Core.List.{List}
use native.Mathlib.Omega.{arith}
use Rattle.util.proofs.All.{Bytes}
use Rattle.calls.proofs.Samples.{check_count}
use Rattle.text.proofs.DigitsLaws.{digits_tell}
use Rattle.listing.specs.Listing.{ObjectsTold}

pub objects_told : (s : List ℕ) → Bytes s → ObjectsTold s
objects_told s b i m e h = let few = check_count s b i m e h in digits_tell 3 e.count (omega arith)
