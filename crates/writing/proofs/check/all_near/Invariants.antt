use Prim.Native.Nat.{◌+◌, ◌-◌, ◌*◌, ◌≤◌}
use mathlib.Core.Path.{◌≡◌}
use lib.ListN.{drop}
use Rattle.pattern_section.specs.Written.{drawn}
use Rattle.writing.specs.WritePattern.{near}
use Rattle.writing.proofs.check.all_near.Given as goal

-- `writing::check::all_near` meets its contract. Assumes nothing.
abbrev pub invariant-loop-i : goal.invariant-loop-i
invariant-loop-i l = (l.i ≤ l.n) × (near l.keys (drop l.i (drawn l.n l.tracks)) ≡ near l.place (drawn l.n l.tracks)) × (l.keys ≤ 65536 + 17179869184 * l.i)

abbrev pub decreases-loop-i : goal.decreases-loop-i
decreases-loop-i l = l.n - l.i
