-- The machine's steps, case by case. Assumes nothing.
use Prim.Native.Nat.{ℕ, ◌+◌, ◌-◌, ◌≤◌, ◌<◌}
use mathlib.Core.List.{List}
use mathlib.Core.Option.{none, some}
use mathlib.Core.Path.{◌≡◌, refl}
use borrow.Author.Tests.{eq-eqb, ne_eqb, lt-ltb, le-ltb}
use Rattle.util.specs.Reader.{accepted, refused, answered, denied}
use Rattle.nitro.specs.Container.{Kind, EntryRecord}
use Rattle.calls.specs.Kinds.{section_kind}
use Rattle.calls.specs.Calls.{check, answer}
use Rattle.player.specs.Player.{Mode, Player, pick, tick, at_last, next, step, shown_of, picture}

-- ---- the frame that a tick goes to

module _ (mode : Mode) (frames frame : ℕ) where
  pub no_frames : frames ≡ 0 → next mode frames frame ≡ 0
  unfolding next
  no_frames h = rw (eq-eqb frames 0 h) refl

  module _ (some : frames ≡ 0 → ⊥) where
    pub one_more : frame < frames - 1 → next mode frames frame ≡ frame + 1
    unfolding next
    one_more h = rw (ne_eqb frames 0 some, lt-ltb frame (frames - 1) h) refl

    pub at_last_lem : frames - 1 ≤ frame → next mode frames frame ≡ at_last mode frame
    unfolding next
    at_last_lem h = rw (ne_eqb frames 0 some, le-ltb frame (frames - 1) h) refl

-- ---- the events

module _ (s : List ℕ) (p : Player) where
  pub pick_refused : (i n : ℕ) → answer (check i) s ≡ refused n → step s p (pick i) ≡ denied n
  unfolding step
  pick_refused i n h = rw h refl

  pub picks : (i r : ℕ) (e : EntryRecord) → answer (check i) s ≡ accepted r e → step s p (pick i) ≡ answered (record { entry = some i; frame = 0; mode = p.mode })
  unfolding step
  picks i r e h = rw h refl

  pub tick_early : p.entry ≡ none → step s p tick ≡ denied 17
  unfolding step
  tick_early h = rw h refl

  pub picture_early : p.entry ≡ none → (index : ℕ) → picture s p index ≡ denied 17
  unfolding picture
  picture_early h index = rw h refl

  module _ (i : ℕ) (h : p.entry ≡ some i) where
    pub tick_refused : (n : ℕ) → answer (check i) s ≡ refused n → step s p tick ≡ denied n
    unfolding step
    tick_refused n q = rw (h, q) refl

    pub ticks : (r : ℕ) (e : EntryRecord) → answer (check i) s ≡ accepted r e
        → step s p tick ≡ answered (record { entry = some i; frame = next p.mode e.frames p.frame; mode = p.mode })
    unfolding step
    ticks r e q = rw (h, q) refl

    pub picture_refused : (n : ℕ) → section_kind s ≡ refused n → (index : ℕ) → picture s p index ≡ denied n
    unfolding picture
    picture_refused n q index = rw (h, q) refl

    pub pictures : (r : ℕ) (k : Kind) → section_kind s ≡ accepted r k → (index : ℕ) → picture s p index ≡ shown_of k i p.frame index s
    unfolding picture
    pictures r k q index = rw (h, q) refl
