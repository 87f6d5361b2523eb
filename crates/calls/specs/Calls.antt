-- Every public call, and what it answers: a reader of the section, by document 01's order of refusals.
-- Section, entry index and entry are read by `entry`; then come the index of the object, track, channel, axis or value (9), 10 and 11,
-- which read nothing. Assumes nothing.
use Rattle.std.specs.Prelude.{ℕ, ◌+◌, List, [], ◌∷◌, ltb, leb, length, get_or, Float}
use Rattle.std.proofs.Math.Option.{Option}
use Rattle.std.proofs.lemmas.List.Edits.{sets}
use Rattle.util.specs.Reader.{Reader, done, bind, Outcome, run, Verdict, answered, denied, given, tell}
use Rattle.matrix.specs.declared.Mat3.{Mat3}
use Rattle.matrix.specs.declared.Mat4.{Mat4}
use Rattle.matrix.specs.Matrix.{bytes_of}
use Rattle.info_block.specs.Name.{Name, earliest}
use Rattle.curve.specs.Curve.{Curve, none, Pair, pair_at, Recorded, recorded}
use Rattle.animation.specs.Animation.{Object, still_object, on_axis, Triple, Value, axes_of, sampled_of, default_of, matrix_at}
use Rattle.material_animation.specs.MaterialAnimation.{uv_matrix_at}
use Rattle.pattern.specs.Pattern.{Key, Track, no_track, choice}
use Rattle.nitro.specs.Container.{Kind, jnt, srt, pat, all_kinds, stamped, section, Entry, entry, EntryRecord, record_of, entry_of}
use Rattle.gltf.specs.Curve.{Resampled, resample}
use Rattle.pose.specs.Pose.{Posed, pose_into, clip_into}

-- ---- what is asked of an entry

-- of an object of a JNT0 entry
pub data ObjectQuery : Type 0 where
  matrix : (frame : ℕ) → ObjectQuery
  curve : (which : Triple) (axis : ℕ) → ObjectQuery
  -- one value of its scale
  scale_value : (axis index : ℕ) → ObjectQuery
  rotation_curve : ObjectQuery
  resampled : (which : Triple) (out : List Float) (place : ℕ) → ObjectQuery
  -- the C call: the matrix's bytes, into a lent slice
  matrix_bytes : (frame : ℕ) (out : List ℕ) → ObjectQuery

-- of a track of an SRT0 entry
pub data MaterialQuery : Type 0 where
  uv_matrix : (frame : ℕ) → MaterialQuery
  channel_curve : (channel : ℕ) → MaterialQuery

-- of a track of a PAT0 entry
pub data PatternQuery : Type 0 where
  chosen : (frame : ℕ) → PatternQuery
  keys : PatternQuery

pub data Query : Kind → Type 0 where
  of_object : (object : ℕ) → ObjectQuery → Query jnt
  -- the matrices of all objects at a frame, and at so many frames from `first` on, into a lent slice
  pose : (frame : ℕ) (out : List Float) → Query jnt
  clip : (first frames : ℕ) (out : List Float) → Query jnt
  of_material : (track : ℕ) → MaterialQuery → Query srt
  material_name : (track : ℕ) → Query srt
  of_pattern : (track : ℕ) → PatternQuery → Query pat
  pattern_name : (track : ℕ) → Query pat
  texture_names : Query pat
  palette_names : Query pat

-- a texture's and a palette's index
pub record Chosen : Type 0 where
  pub texture : ℕ
  pub palette : ℕ

-- a place in the section, and how many items stand there
pub record Listed : Type 0 where
  pub place : ℕ
  pub length : ℕ

abbrev pub ObjectReply : ObjectQuery → Type 0
ObjectReply (matrix f) = Mat4
ObjectReply (curve t a) = Recorded (Value t)
ObjectReply (scale_value a i) = Pair
ObjectReply rotation_curve = Recorded Mat3
ObjectReply (resampled t out p) = Resampled
ObjectReply (matrix_bytes f out) = List ℕ

abbrev pub MaterialReply : MaterialQuery → Type 0
MaterialReply (uv_matrix f) = Mat4
MaterialReply (channel_curve c) = Recorded Float

abbrev pub PatternReply : PatternQuery → Type 0
PatternReply (chosen f) = Chosen
PatternReply keys = Listed

abbrev pub Reply : {k : Kind} → Query k → Type 0
Reply (of_object o q) = ObjectReply q
Reply (pose f out) = Posed
Reply (clip f n out) = Posed
Reply (of_material t q) = MaterialReply q
Reply (material_name t) = Name
Reply (of_pattern t q) = PatternReply q
Reply (pattern_name t) = Name
Reply texture_names = Listed
Reply palette_names = Listed

-- ---- indexes: 9 past the list

module _ {A B : Type 0} where
  -- f of item i of a list
  abbrev pub at : List A → A → ℕ → (A → Verdict B) → Verdict B
  at items default i f = given (ltb i (length items)) 9 (f (get_or items i default))

-- 10 for a track with no keys
unfoldable pub chosen_of : List Key → ℕ → Verdict Chosen
chosen_of [] frame = denied 10
chosen_of (k ∷ ks) frame = let c = choice (k ∷ ks) k frame in answered (record { texture = c.texture; palette = c.palette })

-- ---- the answer to a query, from the entry alone

-- of an object of an entry that stands at `entry`
unfoldable pub ask_object : (q : ObjectQuery) → ℕ → Object → Verdict (ObjectReply q)
ask_object (matrix frame) entry o = answered (matrix_at o frame)
ask_object (curve which axis) entry o = on_axis (axes_of which o) axis (λ c. answered (recorded entry c))
ask_object (scale_value axis index) entry o = on_axis o.scale axis (λ c. pair_at c index)
ask_object rotation_curve entry o = answered (recorded entry o.rotation)
ask_object (resampled which out place) entry o = resample (default_of which) (sampled_of which (axes_of which o)) out place
ask_object (matrix_bytes frame out) entry o = given (leb 128 (length out)) 11 (answered (sets out 0 (bytes_of (matrix_at o frame))))

unfoldable pub ask_material : (q : MaterialQuery) → ℕ → List (Curve Float) → Verdict (MaterialReply q)
ask_material (uv_matrix frame) entry channels = answered (uv_matrix_at channels frame)
ask_material (channel_curve channel) entry channels = at channels none channel (λ c. answered (recorded entry c))

unfoldable pub ask_pattern : (q : PatternQuery) → ℕ → Track → Verdict (PatternReply q)
ask_pattern (chosen frame) entry t = chosen_of t.keys frame
ask_pattern keys entry t = answered (record { place = entry + t.place; length = length t.keys })

unfoldable pub ask : {k : Kind} (q : Query k) → Entry k → Verdict (Reply q)
ask (of_object object q) e = at e.held.objects still_object object (ask_object q e.offset)
ask (pose frame out) e = pose_into e.held.objects frame out
ask (clip first frames out) e = clip_into e.held.objects first frames out
ask (of_material track q) e = at e.held.tracks [] track (ask_material q e.offset)
ask (material_name track) e = at e.held.names [] track answered
ask (of_pattern track q) e = at e.held.tracks no_track track (ask_pattern q e.offset)
ask (pattern_name track) e = at e.held.names [] track answered
ask texture_names e = answered (record { place = e.offset + e.held.textures.place; length = e.held.textures.count })
ask palette_names e = answered (record { place = e.offset + e.held.palettes.place; length = e.held.palettes.count })

-- ---- the calls

pub data Call : Type 0 where
  check : (entry : ℕ) → Call
  find : (name : Name) → Call
  on : (kind : Kind) (entry : ℕ) → Query kind → Call

-- finding answers an index, or none
abbrev pub Answer : Call → Type 0
Answer (check i) = EntryRecord
Answer (find name) = Option ℕ
Answer (on k i q) = Reply q

unfoldable pub reader : (c : Call) → Reader (Answer c)
reader (check i) = bind (stamped all_kinds) (λ k. bind (entry k i) (λ e. done (record_of k e)))
reader (find name) = bind (stamped all_kinds) (λ _. bind section (λ block. done (earliest name block.names)))
reader (on k i q) = bind (entry_of k i) (λ e. tell (ask q e))

-- what a call answers on a section: accepted, with the reach and the answer, or refused by number
unfoldable pub answer : (c : Call) → List ℕ → Outcome (Answer c)
answer c s = run (reader c) s 0

-- ---- a lent slice at exit: what was written, and its old contents where the call refuses (of floats, gltf's `slice_of`
-- and pose's `posed_slice`)

abbrev pub bytes_after : List ℕ → Verdict (List ℕ) → List ℕ
bytes_after out (answered written) = written
bytes_after out (denied n) = out
