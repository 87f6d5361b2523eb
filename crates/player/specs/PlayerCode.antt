-- What the code's players and answers stand for. Assumes nothing.
use Rattle.std.specs.Prelude.{List, ℕ, ◌≡◌, Result, Ok, Err}
use Rattle.util.specs.declared.refusal.Refusal.{Refusal}
use Rattle.util.specs.Reader.{Verdict}
use Rattle.util.specs.ReaderCode.{verdict}
use Rattle.calls.specs.AnswersCode.{found, choice_means}
use Rattle.player.specs.declared.Mode.{Mode as CodeMode}
use Rattle.player.specs.declared.Mode.TheVariants.{Hold, Loop}
use Rattle.player.specs.declared.Player.{Player as CodePlayer}
use Rattle.player.specs.declared.Shown.{Shown as CodePicture}
use Rattle.player.specs.declared.Shown.TheVariants.{Matrix, Choice}
use Rattle.player.specs.Player.{Mode, hold, loop, Player, Event, kept, step, Picture, matrix, choice}

abbrev pub mode_means : CodeMode → Mode
mode_means Hold = hold
mode_means Loop = loop

abbrev pub player_means : CodePlayer → Player
player_means p = record { entry = found (λ i. i) p.picked; frame = p.frame; mode = mode_means p.mode }

-- the player after an event, or the number
abbrev pub player_answer_means : Result CodePlayer Refusal → Verdict Player
player_answer_means x = verdict player_means x

-- a caller goes on with the player of an accepted event, and else with the one that it has
abbrev pub goes_on : CodePlayer → Result CodePlayer Refusal → CodePlayer
goes_on p (Ok q) = q
goes_on p (Err e) = p

-- So each event, by the contract of its function, leads to the machine's player: proved in proofs/PlaysLaws.antt.
abbrev pub GoesOn : Type 0
GoesOn = (s : List ℕ) (p : CodePlayer) (e : Event) (a : Result CodePlayer Refusal) → player_answer_means a ≡ step s (player_means p) e → player_means (goes_on p a) ≡ kept (player_means p) (step s (player_means p) e)

-- a matrix, or the indexes of a texture and of a palette
abbrev pub picture_means : CodePicture → Picture
picture_means (Matrix m) = matrix m
picture_means (Choice c) = choice (choice_means c)

abbrev pub picture_answer_means : Result CodePicture Refusal → Verdict Picture
picture_answer_means x = verdict picture_means x
