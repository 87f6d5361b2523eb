use mathlib.Core.Path.{refl}
use Rattle.player.specs.Player.{step}
use Rattle.player.proofs.set_mode.Goals as goal

-- `player::set_mode` meets its contract. Assumes nothing.
pub returns : goal.returns
unfolding step
returns c = λ s. refl
