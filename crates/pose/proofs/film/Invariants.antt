use Prim.Native.Nat.{◌-◌}
use mathlib.Core.Path.{◌≡◌}
use lib.ListN.{length}
use Rattle.animation.specs.AnimationCode.{WholeAnimation}
use Rattle.pose.proofs.PoseLaws.{Shot}
use Rattle.pose.proofs.film.Given as goal

-- `pose::film` meets its contract. The loop's invariant: the objects so far are filmed. Assumes nothing.
abbrev pub invariant-loop-o : goal.invariant-loop-o
invariant-loop-o l = (length l.out ≡ length l.initial.out) × ((w : WholeAnimation l.s l.a) → Shot w.held.objects l.a.objects l.first l.frames l.initial.out l.o l.out)

abbrev pub decreases-loop-o : goal.decreases-loop-o
decreases-loop-o l = l.a.objects - l.o
