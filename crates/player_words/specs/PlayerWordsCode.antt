-- What the code that sets a player's words leaves, by what an event answered. Assumes nothing.
use Rattle.std.specs.Prelude.{ℕ, ◌<◌, List, ◌≡◌}
use Rattle.util.specs.Reader.{Verdict, answered, denied, number}
use Rattle.player.specs.Player.{Player, Event}
use Rattle.player_words.specs.PlayerWords.{words_after}

-- the frame of the code's player has sixteen bits
abbrev pub Sixteen : Verdict Player → Type 0
Sixteen (answered p) = p.frame < 65536
Sixteen (denied n) = Unit {0}

-- the number that it answers, and the words
pub record Sets (e : Event) (v : Verdict Player) (r : ℕ) (before after : List ℕ) : Type 0 where
  pub number : r ≡ number v
  pub words : after ≡ words_after e v before
