use mathlib.Core.Path.{◌∙◌}
use lib.ListN.{drop}
use Rattle.util.specs.View.{little, view}
use Rattle.animation.proofs.GreatestLaws.{all_reach}
use Rattle.animation.proofs.follow_all.Goals as goal

-- `animation::follow_all` meets its contract. Assumes nothing.
pub returns : goal.returns
returns c =
    let a = c.args in
    all_reach a.t a.s.now (view 2 little a.n (drop a.list a.s.now)) a.reach _ (c.last_end.ensures ∙ c.greatest_of.ensures a.t) _ c.reach_to.ensures
