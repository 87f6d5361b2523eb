use Rattle.player_words.proofs.PlayerWordsLaws.{moded}
use borrow.Author.Rules.{rules}
use Rattle.exports.proofs.motion_player_mode.Goals as goal

-- `exports::motion_player_mode` meets its contract. Assumes nothing.
pub returns : goal.returns
returns c = λ s. let a = c.args in moded s _ a.player.now _ (search rules) _ _ c.mode_of.ensures c.put_mode.ensures
