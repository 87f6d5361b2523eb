-- Every list that a call tells of has the frames that its length, rate and rest make. Assumes nothing.
use Prim.Native.Nat.{ℕ}
use mathlib.Core.Bool.{Bool, true, false}
use mathlib.Core.List.{List, [], ◌∷◌}
use mathlib.Core.Path.{◌≡◌, refl}
use borrow.Author.Tests.{ltb-true}
use lib.Dec.{ltb}
use lib.ListN.{length, get_or}
use lib.Ieee.{Float}
use Rattle.util.specs.Reader.{Verdict, answered, given, tell}
use Rattle.util.proofs.All.{Bytes, Each, each_at, each_get_d, All, all_run, all_any, all_bind, all_after}
use Rattle.util.proofs.BelowLaws.{Small}
use Rattle.curve.specs.Curve.{Curve, none, RecordTells, recorded}
use Rattle.curve.proofs.MagnitudeLaws.{SizedCurve, recorded_tells}
use Rattle.animation.specs.Animation.{Object, still_object, Triple, translation, scale, axes_of}
use Rattle.animation.proofs.FiniteLaws.{Sized, SizedAxes, SmallValue}
use Rattle.material_animation.proofs.FiniteLaws.{SizedTrack}
use Rattle.nitro.specs.Container.{Kind, Entry, entry_of}
use Rattle.nitro.proofs.FiniteLaws.{SizedValue, entry_all}
use Rattle.calls.specs.Calls.{ObjectQuery, matrix, curve, scale_value, rotation_curve, resampled, matrix_bytes, MaterialQuery, uv_matrix, channel_curve, Query, of_object, pose, clip, of_material, material_name, of_pattern, pattern_name, texture_names, palette_names, at, ask_object, ask_material, ask, Call, check, find, on, reader, answer}
use Rattle.calls.specs.FramesTold.{ObjectTells, MaterialTells, QueryTells, AnswerTells, EveryListTold}

-- a test that reads nothing, and what is told after it
all_given : {A : Type 0} (P : A → Type 0) (b : Bool) (n : ℕ) (v : Verdict A) → (b ≡ true → All P (tell v)) → All P (tell (given b n v))
all_given P true n v h = h refl
all_given P false n v h = tt

-- of item i of a list whose items all have Q
all_at : {A B : Type 0} (Q : A → Type 0) (P : B → Type 0) (items : List A) (d : A) → Each Q items → (i : ℕ) (f : A → Verdict B)
    → ((x : A) → Q x → All P (tell (f x))) → All P (tell (at items d i f))
all_at Q P items d h i f k = all_given P _ 9 (f (get_or items i d)) λ e. k (get_or items i d) (each_at Q items d h i (ltb-true i (length items) e))

-- ---- what is asked of an entry that a reader gave

axes_sized : (which : Triple) (o : Object) → Sized o → SizedAxes (SmallValue which) (axes_of which o)
axes_sized translation o h = h.translation
axes_sized scale o h = h.scale

object_tells : (q : ObjectQuery) (entry : ℕ) (o : Object) → Sized o → All (ObjectTells q) (tell (ask_object q entry o))
unfolding ask_object
object_tells (curve which axis) entry o h =
    let a = axes_of which o in
    let s = axes_sized which o h in
    all_given _ (ltb axis 3) 9 _ λ _.
    recorded_tells (SmallValue which) entry _ (each_get_d (SizedCurve (SmallValue which)) (a.x ∷ a.y ∷ a.z ∷ []) none (s.x, (s.y, (s.z, tt))) tt axis)
object_tells rotation_curve entry o h = recorded_tells _ entry o.rotation h.rotation
object_tells (matrix frame) entry o h = tt
object_tells (scale_value axis index) entry o h = all_any (tell (ask_object (scale_value axis index) entry o))
object_tells (resampled which out place) entry o h = all_any (tell (ask_object (resampled which out place) entry o))
object_tells (matrix_bytes frame out) entry o h = all_any (tell (ask_object (matrix_bytes frame out) entry o))

material_tells : (q : MaterialQuery) (entry : ℕ) (channels : List (Curve Float)) → SizedTrack channels → All (MaterialTells q) (tell (ask_material q entry channels))
unfolding ask_material
material_tells (channel_curve channel) entry channels h = all_at (SizedCurve Small) RecordTells channels none h.1 channel (λ c. answered (recorded entry c)) (recorded_tells Small entry)
material_tells (uv_matrix frame) entry channels h = tt

query_tells : {k : Kind} (q : Query k) (e : Entry k) → SizedValue k e.held → All (QueryTells q) (tell (ask q e))
unfolding ask
query_tells (of_object object q) e h = all_at Sized (ObjectTells q) e.held.objects still_object h.1 object (ask_object q e.offset) (object_tells q e.offset)
query_tells (pose frame out) e h = all_any (tell (ask (pose frame out) e))
query_tells (clip first frames out) e h = all_any (tell (ask (clip first frames out) e))
query_tells (of_material track q) e h = all_at SizedTrack (MaterialTells q) e.held.tracks [] h.1 track (ask_material q e.offset) (material_tells q e.offset)
query_tells (material_name track) e h = all_any (tell (ask (material_name track) e))
query_tells (of_pattern track q) e h = all_any (tell (ask (of_pattern track q) e))
query_tells (pattern_name track) e h = all_any (tell (ask (pattern_name track) e))
query_tells texture_names e h = tt
query_tells palette_names e h = tt

-- ---- the theorem

reader_tells : (c : Call) → All (AnswerTells c) (reader c)
unfolding reader entry_of
reader_tells (check i) = all_any (reader (check i))
reader_tells (find name) = all_any (reader (find name))
reader_tells (on k i q) = all_bind (λ e. SizedValue k e.held) _ (entry_of k i) _ (all_after _ _ _ λ _. entry_all k i) (query_tells q)

pub frames_told : (s : List ℕ) → Bytes s → EveryListTold s
unfolding answer
frames_told s b c m a = all_run (AnswerTells c) (reader c) (reader_tells c) s b 0 m a
