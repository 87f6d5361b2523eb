-- What the calls for C answer and write: the number, 0 where a call accepts, and the words or floats of its answer. Assumes nothing.
use Rattle.std.specs.Prelude.{ℕ, List, [], ◌∷◌, ◌≡◌, Float, length}
use Rattle.std.proofs.Math.Option.{Option, none, some}
use Rattle.std.proofs.lemmas.List.Edits.{sets}
use Rattle.util.specs.View.{word_at}
use Rattle.util.specs.Reader.{Outcome, accepted, refused, Verdict, answered, denied, number}
use Rattle.matrix.specs.declared.Mat3.{Mat3}
use Rattle.info_block.specs.Name.{Name}
use Rattle.curve.specs.Curve.{Pair, Recorded, no_curve, always, listed}
use Rattle.nitro.specs.Container.{Kind, jnt, srt, pat, EntryRecord}
use Rattle.gltf.specs.Curve.{Span, no_span, span, Resampled}
use Rattle.pose.specs.Pose.{Posed}
use Rattle.calls.specs.Calls.{Listed, Chosen}
use Rattle.calls.specs.Material.{Material}
use Rattle.pattern_section.specs.Written.{Lent}
use Rattle.writing.specs.WritePattern.{write_pattern, slice_after}

-- ---- what a call leaves in an array that it is lent: the items of its answer, from the array's start on; the old contents where it refuses

abbrev pub written : {A T : Type 0} → (A → List T) → Verdict A → List T → List T
written items (answered a) before = sets before 0 (items a)
written items (denied n) before = before

-- a call with this verdict, by what it answers and by the array before and after it
pub record Writes {A T : Type 0} (items : A → List T) (v : Verdict A) (r : ℕ) (before after : List T) : Type 0 where
  pub number : r ≡ number v
  pub array : after ≡ written items v before

-- ---- the words and the floats of each answer

-- the kind of a section
abbrev pub kind_words : Kind → List ℕ
kind_words jnt = 0 ∷ []
kind_words srt = 1 ∷ []
kind_words pat = 2 ∷ []

-- a name as two words
abbrev pub name_words : Name → List ℕ
name_words n = word_at 8 n 0 ∷ word_at 8 n 8 ∷ []

-- the check's answer is the record with the reach
abbrev pub checked : Outcome EntryRecord → Verdict (ℕ × EntryRecord)
checked (accepted m e) = answered (m, e)
checked (refused n) = denied n

-- the name's two words, the reach, the frames, how many objects or tracks
abbrev pub record_words : ℕ × EntryRecord → List ℕ
record_words r = word_at 8 r.1.name 0 ∷ word_at 8 r.1.name 8 ∷ r.0 ∷ r.1.frames ∷ r.1.count ∷ []

-- a curve: 0 for none; 1 for a constant, whose value is floats; 2 for a list, with its start, end, place, length, bytes per value, rate and rest
abbrev pub curve_words : {A : Type 0} → Recorded A → List ℕ
curve_words no_curve = 0 ∷ []
curve_words (always v) = 1 ∷ []
curve_words (listed l n) = 2 ∷ l.start ∷ l.end ∷ l.place ∷ n ∷ l.size ∷ l.rate ∷ l.rest ∷ []

abbrev pub curve_floats : {A : Type 0} → (A → List Float) → Recorded A → List Float
curve_floats floats no_curve = []
curve_floats floats (always v) = floats v
curve_floats floats (listed l n) = []

abbrev pub one_float : Float → List Float
one_float x = x ∷ []

-- the first and the second number
abbrev pub two_floats : Pair → List Float
two_floats v = v.first ∷ v.second ∷ []

-- column by column
abbrev pub nine_floats : Mat3 → List Float
nine_floats m = m.c0.x ∷ m.c0.y ∷ m.c0.z ∷ m.c1.x ∷ m.c1.y ∷ m.c1.z ∷ m.c2.x ∷ m.c2.y ∷ m.c2.z ∷ []

-- where a list stands, and how many items it has
abbrev pub listed_words : Listed → List ℕ
listed_words l = l.place ∷ l.length ∷ []

-- a texture's and a palette's index
abbrev pub chosen_words : Chosen → List ℕ
chosen_words c = c.texture ∷ c.palette ∷ []

-- the shift of a material's texture
abbrev pub shift_floats : Material → List Float
shift_floats m = m.shift.u ∷ m.shift.v ∷ []

-- whether a texture and a palette are chosen for it, and their indexes
abbrev pub choice_words : Option Chosen → List ℕ
choice_words none = 0 ∷ []
choice_words (some c) = 1 ∷ c.texture ∷ c.palette ∷ []

abbrev pub material_words : Material → List ℕ
material_words m = choice_words m.choice

-- whether there was anything to resample, its start and end, and how many frames were written
abbrev pub span_words : Span → ℕ → List ℕ
span_words no_span frames = 0 ∷ []
span_words (span start end) frames = 1 ∷ start ∷ end ∷ frames ∷ []

abbrev pub resampled_words : Resampled → List ℕ
resampled_words r = span_words r.over r.frames

-- how many objects a pose or a clip has
abbrev pub posed_words : Posed → List ℕ
posed_words r = r.objects ∷ []

-- whether an entry was found, and its index
abbrev pub found_words : Option ℕ → List ℕ
found_words none = 0 ∷ []
found_words (some i) = 1 ∷ i ∷ []

-- ---- a section that is written

-- how many bytes it has
abbrev pub count_words : ℕ → List ℕ
count_words n = n ∷ []

-- the call with what is lent to be written: what it answers, and the slice and the word before and after it
pub record WritesPattern (l : Lent) (r : ℕ) (before after word_before word_after : List ℕ) : Type 0 where
  pub count : Writes count_words (write_pattern l (length before)) r word_before word_after
  pub slice : after ≡ slice_after l before (write_pattern l (length before))
