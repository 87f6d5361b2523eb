use Prim.Native.Nat.{ℕ, ◌-◌, ◌*◌, ◌^◌, ◌≤◌}
use mathlib.Core.Path.{◌≡◌}
use Rattle.util.specs.Reader.{Outcome}
use Rattle.util.specs.ReaderCode.{Follows}
use Rattle.util.proofs.cur.follow.Given as goal

-- `util::cur::follow` meets its contract. The loop's invariant: the items left come to what all the items do. Assumes nothing.
abbrev pub invariant-loop-i : goal.invariant-loop-i
invariant-loop-i g l =
    (l.all.samples ≤ 2 ^ 40 * l.i) × ((left : ℕ → ℕ → ℕ → Outcome ℕ) → Follows (goal.F-post g l.one) l.count left → left l.i l.all.reach l.all.samples ≡ left 0 l.reach 0)

abbrev pub decreases-loop-i : goal.decreases-loop-i
decreases-loop-i g l = l.count - l.i
