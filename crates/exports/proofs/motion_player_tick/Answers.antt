use mathlib.Core.Path.{ap, ◌∙◌}
use Rattle.player.specs.Player.{Player, tick, step}
use Rattle.player_words.proofs.PlayerWordsLaws.{ticked}
use borrow.Author.Rules.{rules}
use Rattle.exports.proofs.motion_player_tick.Goals as goal

-- `exports::motion_player_tick` meets its contract. Assumes nothing.
pub returns : goal.returns
returns c =
    let a = c.args in
    ticked a.s.now _ _ a.player.now _ (search rules) (c.tick.ensures ∙ ap (λ (p : Player). step a.s.now p tick) c.player_of-p.ensures) c.put_tick.ensures.0 c.put_tick.ensures.1
