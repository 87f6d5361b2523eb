-- What a cut does to a player. Proved in proofs/CutsLaws.antt for every section, cut and tail, from what it does to the calls. Assumes nothing.
use Rattle.std.specs.Prelude.{ℕ, ◌≤◌, ◌<◌, List, [], ◌∷◌, ◌≡◌, take}
use Rattle.std.proofs.Math.Option.{some}
use Rattle.util.specs.Reader.{accepted, refused, denied}
use Rattle.util.specs.Place.{front}
use Rattle.nitro.specs.Container.{EntryRecord}
use Rattle.calls.specs.Calls.{check, answer}
use Rattle.player.specs.Player.{Player, Event, pick, tick, set, new, step, play, picture}

-- the front decides about entry i: it is accepted, with a reach up to the cut; or the front refuses it, and not as too short
pub data Settled (s : List ℕ) (k i : ℕ) : Type 0 where
  whole : (r : ℕ) (e : EntryRecord) → answer (check i) s ≡ accepted r e → r ≤ k → Settled s k i
  no_entry : (n : ℕ) → answer (check i) (take k s) ≡ refused n → (n ≡ 2 → ⊥) → Settled s k i

-- each entry that is to be picked is settled
abbrev pub EventSettled : List ℕ → ℕ → Event → Type 0
EventSettled s k (pick i) = Settled s k i
EventSettled s k tick = Unit {0}
EventSettled s k (set mode) = Unit {0}

abbrev pub AllSettled : List ℕ → ℕ → List Event → Type 0
AllSettled s k [] = Unit {0}
AllSettled s k (e ∷ es) = EventSettled s k e × AllSettled s k es

-- s is the section, k the cut, `take k s` the front, and `front k s t` the front with t after it
pub record Cuts (s : List ℕ) (k : ℕ) (t : List ℕ) : Type 0 where
  -- A new player on the front, whatever follows it, plays as on the uncut section: it stands alike, each further event is answered alike, with
  -- the same number where it is refused, and every picture is the same.
  pub stands_alike : (es : List Event) → AllSettled s k es → play (front k s t) new es ≡ play s new es
  pub moves_alike : (es : List Event) → AllSettled s k es → (e : Event) → EventSettled s k e → step (front k s t) (play s new es) e ≡ step s (play s new es) e
  pub shows_alike : (es : List Event) → AllSettled s k es → (index : ℕ) → picture (front k s t) (play s new es) index ≡ picture s (play s new es) index
  -- Before the reach of an entry the front is too short.
  pub pick_short : (i r : ℕ) (e : EntryRecord) → answer (check i) s ≡ accepted r e → k < r → (p : Player) → step (take k s) p (pick i) ≡ denied 2
  pub tick_short : (i r : ℕ) (e : EntryRecord) → answer (check i) s ≡ accepted r e → k < r → (p : Player) → p.entry ≡ some i → step (take k s) p tick ≡ denied 2
  pub picture_short : (i r : ℕ) (e : EntryRecord) → answer (check i) s ≡ accepted r e → k < r → (p : Player) → p.entry ≡ some i → (index : ℕ) → picture (take k s) p index ≡ denied 2
  -- What the front refuses with another number is refused so whatever follows.
  pub event_stays : (p : Player) (e : Event) (n : ℕ) → step (take k s) p e ≡ denied n → (n ≡ 2 → ⊥) → step (front k s t) p e ≡ denied n
  pub picture_stays : (p : Player) (index n : ℕ) → picture (take k s) p index ≡ denied n → (n ≡ 2 → ⊥) → picture (front k s t) p index ≡ denied n
