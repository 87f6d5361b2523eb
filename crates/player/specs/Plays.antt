-- What the player does, in a viewer's words. Proved in proofs/PlaysLaws.antt for every section and every player, with nothing else assumed.
use Rattle.std.specs.Prelude.{ℕ, suc, ◌-◌, ◌%◌, min, List, [], ◌∷◌, ◌++◌, ◌↔◌, ◌≡◌}
use Rattle.std.proofs.Math.Option.{none, some}
use Rattle.util.specs.Reader.{accepted, refused, denied}
use Rattle.nitro.specs.Container.{Kind, EntryRecord}
use Rattle.calls.specs.Kinds.{section_kind}
use Rattle.calls.specs.Calls.{check, answer}
use Rattle.player.specs.Player.{Mode, hold, loop, Player, Event, pick, tick, set, kept, step, play, shown_of, picture}

-- ---- which events are refused, and with which number

pub record Refusals (s : List ℕ) (p : Player) : Type 0 where
  -- a pick exactly where the check refuses the entry, with its number
  pub pick_refused : (i n : ℕ) → (step s p (pick i) ≡ denied n) ↔ (answer (check i) s ≡ refused n)
  -- and so is a tick, once an entry is picked
  pub tick_refused : (i : ℕ) → p.entry ≡ some i → (n : ℕ) → (step s p tick ≡ denied n) ↔ (answer (check i) s ≡ refused n)
  -- before that a tick and a picture are refused with 17, whatever the section is
  pub tick_early : p.entry ≡ none → step s p tick ≡ denied 17
  pub picture_early : p.entry ≡ none → (index : ℕ) → picture s p index ≡ denied 17
  -- a mode never is
  pub mode_set : (mode : Mode) (n : ℕ) → step s p (set mode) ≡ denied n → ⊥
  -- what is refused changes nothing
  pub unmoved : (e : Event) (n : ℕ) → step s p e ≡ denied n → kept p (step s p e) ≡ p

-- ---- what is shown of an entry that is picked

pub record Shown (s : List ℕ) (p : Player) (i : ℕ) (is : p.entry ≡ some i) (index : ℕ) : Type 0 where
  -- what the call for the section's kind answers at the player's frame, its refusals included
  pub own_call : (k : Kind) → section_kind s ≡ accepted 4 k → picture s p index ≡ shown_of k i p.frame index s
  -- a section of no kind is refused as each of these calls refuses it
  pub no_kind : (n : ℕ) → section_kind s ≡ refused n → (picture s p index ≡ denied n) × ((k : Kind) → shown_of k i p.frame index s ≡ denied n)

-- ---- at which frame

abbrev pub tick_count : List Event → ℕ
tick_count [] = 0
tick_count (pick i ∷ es) = tick_count es
tick_count (tick ∷ es) = suc (tick_count es)
tick_count (set mode ∷ es) = tick_count es

-- No pick among the events is accepted, and each tick finds this mode. `now` is the mode before the first of them.
abbrev pub OneMode : List ℕ → Mode → (now : Mode) → List Event → Type 0
OneMode s mode now [] = Unit {0}
OneMode s mode now (pick i ∷ es) = ((n : ℕ) × (answer (check i) s ≡ refused n)) × OneMode s mode now es
OneMode s mode now (tick ∷ es) = (now ≡ mode) × OneMode s mode now es
OneMode s mode now (set other ∷ es) = OneMode s mode other es

-- the frame after k ticks in one mode, of an entry of n frames
abbrev pub frame_after : Mode → (k n : ℕ) → ℕ
frame_after hold k n = min k (n - 1)
frame_after loop k n = k % n

-- p is any player, so also one that any events have led to; then entry i is picked, and `es` follow
pub record Frames (s : List ℕ) (p : Player) (i r : ℕ) (e : EntryRecord) (accepts : answer (check i) s ≡ accepted r e) (mode : Mode) (es : List Event) (one : OneMode s mode p.mode es) : Type 0 where
  pub still_picked : (play s p (pick i ∷ es)).entry ≡ some i
  pub after_ticks : (e.frames ≡ 0 → ⊥) → (play s p (pick i ∷ es)).frame ≡ frame_after mode (tick_count es) e.frames
  pub no_frames : e.frames ≡ 0 → (play s p (pick i ∷ es)).frame ≡ 0

-- events after events
abbrev pub InTurn : Type 0
InTurn = (s : List ℕ) (p : Player) (es fs : List Event) → play s p (es ++ fs) ≡ play s (play s p es) fs

-- ---- the code's players

-- What stands for a player, as a struct of the code or words for C do, moved by a list of events: each leaves what the machine says of it. That it does
-- is what the contracts of the calls for the three events say.
pub data Follows {X : Type 0} (means : X → Player) (s : List ℕ) : X → List Event → X → Type 0 where
  nothing : {x : X} → Follows means s x [] x
  event : {x y z : X} {e : Event} {es : List Event} → means y ≡ kept (means x) (step s (means x) e) → Follows means s y es z → Follows means s x (e ∷ es) z

-- after all of them it stands for the machine's player
abbrev pub Alike : Type 1
Alike = (X : Type 0) (means : X → Player) (s : List ℕ) (x z : X) (es : List Event) → Follows means s x es z → means z ≡ play s (means x) es
