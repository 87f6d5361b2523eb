use Prim.Native.Nat.{◌+◌, ◌-◌, ◌*◌, ◌≤◌}
use mathlib.Core.Path.{◌≡◌}
use lib.ListN.{length, drop}
use lib.Seq.{sets}
use mathlib.Core.List.{flatten}
use Rattle.pattern_section.specs.Written.{names, drawn}
use Rattle.pattern_section.proofs.put_names.Given as goal

-- `pattern_section::put_names` meets its contract. Assumes nothing.
abbrev pub invariant-loop-i : goal.invariant-loop-i
invariant-loop-i l = (l.i ≤ l.n) × (l.to ≡ l.at + 16 * l.i) × (length l.out ≡ length l.initial.out) × (sets l.out l.to (flatten (names (drop l.i (drawn l.n l.tracks)))) ≡ sets l.initial.out l.at (flatten (names (drawn l.n l.tracks))))

abbrev pub decreases-loop-i : goal.decreases-loop-i
decreases-loop-i l = l.n - l.i
