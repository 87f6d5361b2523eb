use Prim.Native.Nat.{◌+◌, ◌-◌, ◌*◌, ◌≤◌}
use mathlib.Core.Path.{◌≡◌}
use lib.ListN.{drop}
use Rattle.pattern_section.specs.Written.{drawn, key_total}
use Rattle.writing.proofs.check.key_total.Given as goal

-- `writing::check::key_total` meets its contract. Assumes nothing.
abbrev pub invariant-loop-i : goal.invariant-loop-i
invariant-loop-i l = (l.i ≤ l.n) × (l.sum + key_total (drop l.i (drawn l.n l.tracks)) ≡ key_total (drawn l.n l.tracks)) × (l.sum ≤ 4294967296 * l.i)

abbrev pub decreases-loop-i : goal.decreases-loop-i
decreases-loop-i l = l.n - l.i
