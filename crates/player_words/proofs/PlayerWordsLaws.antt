-- The words after an event stand for the machine's player. Assumes nothing.
use Prim.Native.Nat.{ℕ}
use mathlib.Core.List.{List, [], ◌∷◌}
use mathlib.Core.Option.{Option, none, some}
use mathlib.Core.Path.{◌≡◌, refl, ap, subst, ◌∙◌}
use native.Mathlib.Nat.{mod-eq_of_lt}
use native.Mathlib.Omega.{arith}
use lib.ListN.{length}
use Rattle.util.specs.Reader.{Outcome, accepted, refused, Verdict, answered}
use Rattle.nitro.specs.Container.{EntryRecord}
use Rattle.calls.specs.Calls.{check, answer}
use Rattle.player.specs.Player.{Mode, hold, loop, Player, Event, pick, tick, set, kept, step}
use Rattle.player.proofs.StepLaws.{pick_refused, picks, tick_early, tick_refused, ticks}
use Rattle.player_words.specs.PlayerWords.{player_of, words_after, Moves}
use Rattle.player_words.specs.PlayerWordsCode.{Sixteen, Sets}

module _ (s : List ℕ) (a b c d : ℕ) where
  abbrev four : List ℕ
  four = a ∷ b ∷ c ∷ d ∷ []

  -- the words that an event leaves are the player that it leaves
  abbrev Leaves : Event → Type 0
  Leaves e = player_of (words_after e (step s (player_of four) e) four) ≡ kept (player_of four) (step s (player_of four) e)

  pick_leaves : (i : ℕ) → Leaves (pick i)
  pick_leaves i = go (answer (check i) s) refl
    where
      go : (o : Outcome EntryRecord) → answer (check i) s ≡ o → Leaves (pick i)
      go (accepted r e) q = rw (picks s (player_of four) i r e q) refl
      go (refused n) q = rw (pick_refused s (player_of four) i n q) refl

  tick_leaves : Sixteen (step s (player_of four) tick) → Leaves tick
  tick_leaves h = go (player_of four).entry refl
    where
      go : (o : Option ℕ) → (player_of four).entry ≡ o → Leaves tick
      go none q = rw (tick_early s (player_of four) q) refl
      go (some i) q = by (answer (check i) s) refl
        where
          by : (o : Outcome EntryRecord) → answer (check i) s ≡ o → Leaves tick
          by (refused n) z = rw (tick_refused s (player_of four) i q n z) refl
          by (accepted r e) z =
              let w = ticks s (player_of four) i q r e z in
              let l = rw w at h in
              rw w (λ j. record { entry = q j; frame = mod-eq_of_lt l j; mode = (player_of four).mode })

  set_leaves : (mode : Mode) → Leaves (set mode)
  unfolding step
  set_leaves hold = refl
  set_leaves loop = refl

-- a call that sets the words of what an event answers moves the player
module _ (s : List ℕ) (v : Verdict Player) (r : ℕ) where
  four_words : (e : Event) → ((a b c d : ℕ) → v ≡ step s (player_of (a ∷ b ∷ c ∷ d ∷ [])) e → Leaves s a b c d e) → (before after : List ℕ) → length before ≡ 4 → v ≡ step s (player_of before) e → Sets e v r before after → Moves s e r before after
  four_words e leaves (a ∷ b ∷ c ∷ d ∷ []) after h q w =
      let x = rw q at w.words in
      record { number = rw q at w.number; words = x; player = ap player_of x ∙ leaves a b c d q }
  four_words e leaves [] after h q w = absurd (omega arith)
  four_words e leaves (a ∷ []) after h q w = absurd (omega arith)
  four_words e leaves (a ∷ b ∷ []) after h q w = absurd (omega arith)
  four_words e leaves (a ∷ b ∷ c ∷ []) after h q w = absurd (omega arith)
  four_words e leaves (a ∷ b ∷ c ∷ d ∷ x ∷ xs) after h q w = absurd (omega arith)

  module _ (before after : List ℕ) (h : length before ≡ 4) where
    pub picked : (i : ℕ) → v ≡ step s (player_of before) (pick i) → Sets (pick i) v r before after → Moves s (pick i) r before after
    picked i = four_words (pick i) (λ a b c d q. pick_leaves s a b c d i) before after h

    pub ticked : v ≡ step s (player_of before) tick → Sets tick v r before after → Sixteen v → Moves s tick r before after
    ticked q w l = four_words tick (λ a b c d z. tick_leaves s a b c d (rw z at l)) before after h q w

pub moded : (s : List ℕ) (r : ℕ) (before after : List ℕ) → length before ≡ 4 → (mode other : Mode) → mode ≡ other → ((p : Player) → Sets (set mode) (answered p) r before after) → Moves s (set other) r before after
unfolding step
moded s r before after h mode other e w =
    subst (λ (m : Mode). Moves s (set m) r before after) e
    (four_words s (answered (record { entry = (player_of before).entry; frame = (player_of before).frame; mode = mode })) r (set mode) (λ a b c d q. set_leaves s a b c d mode) before after h refl (w _))
