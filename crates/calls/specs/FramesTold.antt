-- The frames of every list that a call tells of: 2 to the rate for each value, and the rest. Proved in proofs/FramesTold.antt for every list of
-- bytes.
use Rattle.std.specs.Prelude.{ℕ, List, ◌≡◌}
use Rattle.util.specs.Reader.{accepted}
use Rattle.curve.specs.Curve.{RecordTells}
use Rattle.nitro.specs.Container.{Kind}
use Rattle.calls.specs.Calls.{ObjectQuery, matrix, curve, scale_value, rotation_curve, resampled, matrix_bytes, MaterialQuery, uv_matrix, channel_curve, Query, of_object, pose, clip, of_material, material_name, of_pattern, pattern_name, texture_names, palette_names, ObjectReply, MaterialReply, Reply, Call, check, find, on, Answer, answer}

-- what is promised of an answer: each that is a curve's record tells the frames of its list. Every query has its line.

abbrev pub ObjectTells : (q : ObjectQuery) → ObjectReply q → Type 0
ObjectTells (curve which axis) r = RecordTells r
ObjectTells rotation_curve r = RecordTells r
ObjectTells (matrix frame) r = Unit {0}
ObjectTells (scale_value axis index) r = Unit {0}
ObjectTells (resampled which out place) r = Unit {0}
ObjectTells (matrix_bytes frame out) r = Unit {0}

abbrev pub MaterialTells : (q : MaterialQuery) → MaterialReply q → Type 0
MaterialTells (channel_curve channel) r = RecordTells r
MaterialTells (uv_matrix frame) r = Unit {0}

abbrev pub QueryTells : {k : Kind} (q : Query k) → Reply q → Type 0
QueryTells (of_object object q) r = ObjectTells q r
QueryTells (pose frame out) r = Unit {0}
QueryTells (clip first frames out) r = Unit {0}
QueryTells (of_material track q) r = MaterialTells q r
QueryTells (material_name track) r = Unit {0}
QueryTells (of_pattern track q) r = Unit {0}
QueryTells (pattern_name track) r = Unit {0}
QueryTells texture_names r = Unit {0}
QueryTells palette_names r = Unit {0}

abbrev pub AnswerTells : (c : Call) → Answer c → Type 0
AnswerTells (check entry) r = Unit {0}
AnswerTells (find name) r = Unit {0}
AnswerTells (on kind entry q) r = QueryTells q r

-- whatever is asked of a section, and whichever the entry
abbrev pub EveryListTold : List ℕ → Type 0
EveryListTold s = (c : Call) (m : ℕ) (a : Answer c) → answer c s ≡ accepted m a → AnswerTells c a
