use mathlib.Core.Path.{sym, ap, ◌∙◌}
use Rattle.util.proofs.TryLaws.{passed_on}
use Rattle.player.specs.PlayerCode.{player_means, player_answer_means}
use Rattle.player.proofs.StepLaws.{pick_refused, picks}
use Rattle.player.proofs.pick.Goals as goal

-- `player::pick` meets its contract. Assumes nothing.
pub returns-in_err-check : goal.returns-in_err-check
returns-in_err-check c =
    let a = c.args in
    ap player_answer_means (passed_on _ _ c.from_residual.ensures.1) ∙ sym (pick_refused a.s.now (player_means a.p) a.entry _ (sym c.in_err-check.ensures))

pub returns : goal.returns
returns c = let a = c.args in sym (picks a.s.now (player_means a.p) a.entry _ _ (sym c.in_ok-check.ensures))
