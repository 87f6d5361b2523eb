use Prim.Native.Nat.{◌+◌, ◌-◌, ◌*◌, ◌≤◌}
use mathlib.Core.Path.{◌≡◌}
use lib.ListN.{length, drop}
use lib.Seq.{sets}
use mathlib.Core.List.{flatten}
use Rattle.pattern_section.specs.Written.{datums, drawn}
use Rattle.pattern_section.proofs.put_datums.Given as goal

-- `pattern_section::put_datums` meets its contract. Assumes nothing.
abbrev pub invariant-loop-i : goal.invariant-loop-i
invariant-loop-i l = (l.i ≤ l.n) × (l.to ≡ l.at + 8 * l.i) × (l.keys ≤ 65536 + 17179869184 * l.i) × (length l.out ≡ length l.initial.out) × (sets l.out l.to (flatten (datums l.keys (drop l.i (drawn l.n l.tracks)))) ≡ sets l.initial.out l.at (flatten (datums l.place (drawn l.n l.tracks))))

abbrev pub decreases-loop-i : goal.decreases-loop-i
decreases-loop-i l = l.n - l.i
