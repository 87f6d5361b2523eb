use mathlib.Core.Path.{ap, ◌∙◌}
use Rattle.player.specs.Player.{Player, pick, step}
use Rattle.player_words.proofs.PlayerWordsLaws.{picked}
use borrow.Author.Rules.{rules}
use Rattle.exports.proofs.motion_player_pick.Goals as goal

-- `exports::motion_player_pick` meets its contract. Assumes nothing.
pub returns : goal.returns
returns c =
    let a = c.args in
    picked a.s.now _ _ a.player.now _ (search rules) a.entry (c.pick.ensures ∙ ap (λ (p : Player). step a.s.now p (pick a.entry)) c.player_of-p.ensures) c.put_pick.ensures
