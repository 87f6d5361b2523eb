use Prim.Native.Nat.{◌+◌, ◌-◌, ◌≤◌}
use mathlib.Core.Path.{◌≡◌}
use lib.ListN.{length}
use lib.Seq.{sets}
use Rattle.util.specs.View.{little_bytes}
use Rattle.util.proofs.view.put_word.Given as goal

-- `util::view::put_word` meets its contract. Assumes nothing.
abbrev pub invariant-loop-i : goal.invariant-loop-i
invariant-loop-i l = (l.i ≤ l.n) × (length l.out ≡ length l.initial.out) × (sets l.out (l.at + l.i) (little_bytes (l.n - l.i) l.rest) ≡ sets l.initial.out l.at (little_bytes l.n l.x))

abbrev pub decreases-loop-i : goal.decreases-loop-i
decreases-loop-i l = l.n - l.i
