-- A player for C: four words, which the calls for the events move. Assumes nothing.
use Rattle.std.specs.Prelude.{ℕ, ◌%◌, cond, List, [], ◌∷◌, ◌≡◌, eqb, Float, get_or}
use Rattle.std.proofs.Math.Option.{none, some}
use Rattle.std.proofs.lemmas.List.Edits.{sets}
use Rattle.util.specs.Reader.{Verdict, answered, denied, number}
use Rattle.matrix.specs.Matrix.{floats_of}
use Rattle.player.specs.Player.{Mode, hold, loop, Player, Event, pick, tick, set, kept, step, Picture, matrix, choice}

-- ---- any four words are a player

abbrev pub mode_of : ℕ → Mode
mode_of word = cond (eqb word 0) hold loop

-- whether an entry is picked, the entry, the frame in the low sixteen bits, and whether it loops
abbrev pub player_of : List ℕ → Player
player_of w = record { entry = cond (eqb (get_or w 0 0) 0) none (some (get_or w 1 0)); frame = get_or w 2 0 % 65536; mode = mode_of (get_or w 3 0) }

-- ---- what an event leaves of them

abbrev pub mode_word : Mode → ℕ
mode_word hold = 0
mode_word loop = 1

-- the words that it sets, among those that stand there
abbrev pub words_set : Event → Player → List ℕ → List ℕ
words_set (pick i) p w = sets w 0 (1 ∷ i ∷ 0 ∷ [])
words_set tick p w = sets w 2 (p.frame ∷ [])
words_set (set mode) p w = sets w 3 (mode_word mode ∷ [])

-- a refused event sets none
abbrev pub words_after : Event → Verdict Player → List ℕ → List ℕ
words_after e (answered p) w = words_set e p w
words_after e (denied n) w = w

-- a call for an event on the section s, by what it answers and by the words before and after it
pub record Moves (s : List ℕ) (e : Event) (r : ℕ) (before after : List ℕ) : Type 0 where
  pub number : r ≡ number (step s (player_of before) e)
  pub words : after ≡ words_after e (step s (player_of before) e) before
  -- they stand for the machine's player
  pub player : player_of after ≡ kept (player_of before) (step s (player_of before) e)

-- ---- a picture

-- 1 for a matrix, whose floats go to another array; 2 for a choice, with its texture and its palette
abbrev pub picture_words : Picture → List ℕ
picture_words (matrix m) = 1 ∷ []
picture_words (choice c) = 2 ∷ c.texture ∷ c.palette ∷ []

abbrev pub picture_floats : Picture → List Float
picture_floats (matrix m) = floats_of m
picture_floats (choice c) = []
