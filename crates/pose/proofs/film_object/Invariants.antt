use Prim.Native.Nat.{◌-◌}
use Rattle.animation.specs.AnimationCode.{object_curves}
use Rattle.pose.specs.PoseCode.{Filmed}
use Rattle.pose.proofs.film_object.Given as goal

-- `pose::film_object` meets its contract. The loop's invariant: the frames so far are filmed. Assumes nothing.
abbrev pub invariant-loop-f : goal.invariant-loop-f
invariant-loop-f l = Filmed (object_curves l.t l.s l.c) l.o l.n l.first l.f l.initial.out l.out

abbrev pub decreases-loop-f : goal.decreases-loop-f
decreases-loop-f l = l.frames - l.f
