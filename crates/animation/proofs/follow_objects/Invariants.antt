use Prim.Native.Nat.{◌-◌, ◌*◌, ◌≤◌}
use mathlib.Core.Path.{◌≡◌}
use Rattle.util.specs.View.{little}
use Rattle.util.proofs.Each.{items_left}
use Rattle.animation.specs.Animation.{object, object_samples}
use Rattle.animation.proofs.FiniteLaws.{object_bound}
use Rattle.animation.proofs.follow_objects.Given as goal

-- `animation::follow_objects` meets its contract. The loop's invariant: the objects left come to what all the objects do. Assumes nothing.
abbrev pub invariant-loop-k : goal.invariant-loop-k
invariant-loop-k l = (l.samples ≤ object_bound * l.k) × (items_left (object l.t.pivot l.t.basis) l.s 2 little 20 l.n 0 object_samples l.k l.far l.samples ≡ items_left (object l.t.pivot l.t.basis) l.s 2 little 20 l.n 0 object_samples 0 l.reach 0)

abbrev pub decreases-loop-k : goal.decreases-loop-k
decreases-loop-k l = l.n - l.k
