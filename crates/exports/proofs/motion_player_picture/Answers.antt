use mathlib.Core.Path.{ap, ◌∙◌}
use Rattle.player.specs.Player.{Player, picture}
use Rattle.exports.proofs.motion_player_picture.Goals as goal

-- `exports::motion_player_picture` meets its contract. Assumes nothing.
pub returns : goal.returns
returns c =
    let a = c.args in
    rw (c.picture.ensures ∙ ap (λ (p : Player). picture a.s.now p a.index) c.player_of-p.ensures) at c.put_picture.ensures
