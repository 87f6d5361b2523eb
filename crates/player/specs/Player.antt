-- A player for a viewer: a plain machine that turns through the frames of an entry. Of a section it knows what the public calls answer, and nothing
-- else. Assumes nothing.
use Rattle.std.specs.Prelude.{ℕ, ◌+◌, ◌-◌, cond, List, [], ◌∷◌, eqb, ltb}
use Rattle.std.proofs.Math.Option.{Option, none, some}
use Rattle.util.specs.Reader.{Verdict, answered, denied, told, and_then}
use Rattle.matrix.specs.declared.Mat4.{Mat4}
use Rattle.nitro.specs.Container.{Kind, jnt, srt, pat}
use Rattle.calls.specs.Kinds.{section_kind}
use Rattle.calls.specs.Calls.{Chosen, of_object, of_material, uv_matrix, of_pattern, chosen, check, on, answer}
use Rattle.calls.specs.Calls as calls

-- ---- the machine

pub data Mode : Type 0 where
  hold loop : Mode

pub record Player : Type 0 where
  pub entry : Option ℕ
  pub frame : ℕ
  pub mode : Mode

pub data Event : Type 0 where
  pick : (entry : ℕ) → Event
  tick : Event
  set : (mode : Mode) → Event

abbrev pub new : Player
new = record { entry = none; frame = 0; mode = hold }

-- at the last frame, or past it
abbrev pub at_last : Mode → ℕ → ℕ
at_last hold frame = frame
at_last loop frame = 0

-- the frame that a tick goes to, in an entry of so many frames
unfoldable pub next : Mode → (frames frame : ℕ) → ℕ
next mode frames frame = cond (eqb frames 0) 0 (cond (ltb frame (frames - 1)) (frame + 1) (at_last mode frame))

-- the entry that was picked; 17 before one is
abbrev pub picked : Option ℕ → Verdict ℕ
picked none = denied 17
picked (some i) = answered i

-- an event on a section: the player after it, or the number of its refusal
unfoldable pub step : List ℕ → Player → Event → Verdict Player
step s p (pick i) =
    and_then (told (answer (check i) s)) λ e.
    answered (record { entry = some i; frame = 0; mode = p.mode })
step s p tick =
    and_then (picked p.entry) λ i.
    and_then (told (answer (check i) s)) λ e.
    answered (record { entry = p.entry; frame = next p.mode e.frames p.frame; mode = p.mode })
step s p (set mode) = answered (record { entry = p.entry; frame = p.frame; mode = mode })

-- a refused event changes nothing
abbrev pub kept : Player → Verdict Player → Player
kept p (answered q) = q
kept p (denied n) = p

-- the player after a list of events, one after the other on one section
unfoldable pub play : List ℕ → Player → List Event → Player
play s p [] = p
play s p (e ∷ es) = play s (kept p (step s p e)) es

-- ---- what it shows

pub data Picture : Type 0 where
  matrix : Mat4 → Picture
  choice : Chosen → Picture

-- of an object or a track of entry i, at a frame of a section of each kind: what the call for it answers
abbrev pub shown_of : Kind → (i frame index : ℕ) → List ℕ → Verdict Picture
shown_of jnt i frame object s = and_then (told (answer (on jnt i (of_object object (calls.matrix frame))) s)) λ m. answered (matrix m)
shown_of srt i frame track s = and_then (told (answer (on srt i (of_material track (uv_matrix frame))) s)) λ m. answered (matrix m)
shown_of pat i frame track s = and_then (told (answer (on pat i (of_pattern track (chosen frame))) s)) λ c. answered (choice c)

-- the section that is handed in decides what it is
unfoldable pub picture : List ℕ → Player → (index : ℕ) → Verdict Picture
picture s p index =
    and_then (picked p.entry) λ i.
    and_then (told (section_kind s)) λ k.
    shown_of k i p.frame index s
