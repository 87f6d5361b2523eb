use Rattle.animation.proofs.GreatestLaws.{one_reach}
use Rattle.animation.proofs.follow.Goals as goal

-- `animation::follow` meets its contract. Assumes nothing.
pub returns : goal.returns
returns c = let a = c.args in one_reach a.t a.s.now a.x a.reach _ c.reference_end.ensures _ c.reach_to.ensures
