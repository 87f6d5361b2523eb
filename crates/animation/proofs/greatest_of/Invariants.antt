use Prim.Native.Nat.{◌-◌}
use Rattle.animation.proofs.GreatestLaws.{Left}
use Rattle.animation.proofs.greatest_of.Given as goal

-- `animation::greatest_of` meets its contract. The loop's invariant: the greatest so far and the references left come to what all of them do.
-- Assumes nothing.
abbrev pub invariant-loop-i : goal.invariant-loop-i
invariant-loop-i l = Left l.s l.list l.n l.i l.plain l.turned

abbrev pub decreases-loop-i : goal.decreases-loop-i
decreases-loop-i l = l.n - l.i
