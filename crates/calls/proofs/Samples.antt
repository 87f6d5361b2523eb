-- The samples of an entry's record are what the record calls hand out, added up; they are few, and so are its objects or tracks. Assumes nothing.
use Prim.Native.Nat.{ℕ, ◌<◌, ◌≤◌}
use mathlib.Core.Bool.{Bool}
use mathlib.Core.List.{List, []}
use mathlib.Core.Path.{◌≡◌, refl, sym, ap, subst, ◌∙◌}
use native.Mathlib.Nat.{zero-add}
use borrow.Author.Tests.{lt-ltb}
use lib.Dec.{ltb}
use lib.ListN.{length, get_or, drop}
use lib.Ieee.{Float}
use Rattle.util.specs.Reader.{Outcome, accepted, refused, run, done, Verdict, answered, denied, given, told}
use Rattle.util.specs.Sums.{sum_to}
use Rattle.util.proofs.All.{Bytes, all_run, all_bind, all_after}
use Rattle.util.proofs.Calls.{accepted_first}
use Rattle.util.proofs.ReadsLaws.{done_is}
use Rattle.util.proofs.NumberLaws.{run_number, numbered_bind}
use Rattle.util.proofs.SumsLaws.{entry_bound, total-sum}
use Rattle.curve.specs.Curve.{Curve, none, constant, samples, sample_count, recorded}
use Rattle.animation.specs.Animation.{Object, still_object, axes_of, axes_samples, object_samples, most_objects, Triple, translation, scale}
use Rattle.material_animation.specs.MaterialAnimation.{track_samples}
use Rattle.material_animation.proofs.MaterialLaws.{five_channels}
use Rattle.pattern.specs.Pattern.{no_track, key_count}
use Rattle.nitro.specs.Container.{Kind, jnt, srt, pat, all_kinds, stamped, Entry, entry, EntryRecord, count_of, record_of, samples_of}
use Rattle.nitro.proofs.ContainerLaws.{held_read}
use Rattle.nitro.proofs.EntryLaws.{open_run}
use Rattle.nitro.proofs.FiniteLaws.{SizedValue, entry_all, count_few, samples_few}
use Rattle.nitro.proofs.NumberLaws.{stamped_numbered, entry_numbered}
use Rattle.calls.specs.Calls.{ObjectQuery, ObjectReply, Query, Reply, of_object, curve, rotation_curve, of_material, channel_curve, of_pattern, keys, ask_object, ask_material, ask_pattern, ask, check, on, reader, answer}
use Rattle.calls.specs.Samples.{adds, length_of, axes_lengths, object_lengths, track_lengths, key_lengths, handed_out}
use Rattle.calls.proofs.CallsLaws.{check_stamped, entry_asked}

-- a check's refusal has a number other than 0
pub check_number : (s : List ℕ) (i n : ℕ) → answer (check i) s ≡ refused n → 0 < n
unfolding answer reader
check_number s i n = run_number _ (numbered_bind (stamped all_kinds) _ (stamped_numbered all_kinds) λ k. numbered_bind (entry k i) _ (entry_numbered k i) λ _. tt) s 0 n

-- ---- what an answer adds

-- .. without its reach
abbrev verdict : {A : Type 0} → (A → ℕ) → Verdict A → ℕ
verdict f (answered a) = f a
verdict f (denied n) = 0

adds_told : {A : Type 0} (f : A → ℕ) (o : Outcome A) → adds f o ≡ verdict f (told o)
adds_told f (accepted m a) = refl
adds_told f (refused n) = refl

-- a curve's record tells how many values its list has
recorded_length : {A : Type 0} (entry : ℕ) (c : Curve A) → length_of (recorded entry c) ≡ sample_count c
unfolding recorded
recorded_length entry none = refl
recorded_length entry (constant v) = refl
recorded_length entry (samples l vs) = refl

-- ---- an entry that is read whole

module _ (k : Kind) (s : List ℕ) (i : ℕ) (stamp : run (stamped all_kinds) s 0 ≡ accepted 4 k) (j : ℕ) (e : Entry k) (whole : run (entry k i) s 4 ≡ accepted j e) where
  -- what a call on it adds
  adds_asked : (q : Query k) (f : Reply q → ℕ) → adds f (answer (on k i q) s) ≡ verdict f (ask q e)
  adds_asked q f = adds_told f (answer (on k i q) s) ∙ ap (verdict f) (entry_asked k s i q j e (open_run s i k stamp ∙ whole))

  -- .. about one of its n objects or tracks
  asked_at : (q : Query k) (f : Reply q → ℕ) (o n : ℕ) → o < n → (v : Verdict (Reply q)) → ask q e ≡ given (ltb o n) 9 v → adds f (answer (on k i q) s) ≡ verdict f v
  asked_at q f o n h v w = adds_asked q f ∙ (ap (verdict f) w ∙ ap (λ (b : Bool). verdict f (given b 9 v)) (lt-ltb o n h))

module _ (s : List ℕ) (i : ℕ) (stamp : run (stamped all_kinds) s 0 ≡ accepted 4 jnt) (j : ℕ) (e : Entry jnt) (whole : run (entry jnt i) s 4 ≡ accepted j e) (o : ℕ) (h : o < length e.held.objects) where
  abbrev object : Object
  object = get_or e.held.objects o still_object

  of_object_lem : (q : ObjectQuery) (f : ObjectReply q → ℕ) → adds f (answer (on jnt i (of_object o q)) s) ≡ verdict f (ask_object q e.offset object)
  unfolding ask
  of_object_lem q f = asked_at jnt s i stamp j e whole (of_object o q) f o (length e.held.objects) h _ refl

  axes_handed : (which : Triple) → axes_lengths s i o which ≡ axes_samples (axes_of which object)
  unfolding ask_object sum_to
  axes_handed which =
      let a = axes_of which object in
      let x = of_object_lem (curve which 0) length_of ∙ recorded_length e.offset a.x in
      let y = of_object_lem (curve which 1) length_of ∙ recorded_length e.offset a.y in
      let z = of_object_lem (curve which 2) length_of ∙ recorded_length e.offset a.z in
      rw (x, y, z, zero-add) refl

  object_handed : object_lengths s i o ≡ object_samples object
  unfolding ask_object
  object_handed = rw (axes_handed translation, of_object_lem rotation_curve length_of ∙ recorded_length e.offset object.rotation, axes_handed scale) refl

module _ (s : List ℕ) (i : ℕ) (stamp : run (stamped all_kinds) s 0 ≡ accepted 4 srt) (j : ℕ) (e : Entry srt) (whole : run (entry srt i) s 4 ≡ accepted j e) (t : ℕ) (h : t < length e.held.tracks) where
  abbrev channels : List (Curve Float)
  channels = get_or e.held.tracks t []

  of_channel : (c : ℕ) → c < length channels → adds length_of (answer (on srt i (of_material t (channel_curve c))) s) ≡ sample_count (get_or channels c none)
  unfolding ask ask_material
  of_channel c l =
      asked_at srt s i stamp j e whole (of_material t (channel_curve c)) length_of t (length e.held.tracks) h _ refl
      ∙ (ap (λ (b : Bool). verdict length_of (given b 9 (answered (recorded e.offset (get_or channels c none))))) (lt-ltb c (length channels) l)
      ∙ recorded_length e.offset (get_or channels c none))

  track_handed : track_lengths s i t ≡ track_samples channels
  track_handed =
      let r = held_read srt s i 4 j e whole in
      let n = five_channels (drop e.offset s) 0 r.0 e.held r.1 t h in
      sym (total-sum sample_count none channels _ of_channel ∙ ap (λ (x : ℕ). sum_to x (λ c. adds length_of (answer (on srt i (of_material t (channel_curve c))) s))) n)

module _ (s : List ℕ) (i : ℕ) (stamp : run (stamped all_kinds) s 0 ≡ accepted 4 pat) (j : ℕ) (e : Entry pat) (whole : run (entry pat i) s 4 ≡ accepted j e) (t : ℕ) (h : t < length e.held.tracks) where
  keys_handed : key_lengths s i t ≡ key_count (get_or e.held.tracks t no_track)
  unfolding ask ask_pattern
  keys_handed = asked_at pat s i stamp j e whole (of_pattern t keys) (λ l. l.length) t (length e.held.tracks) h _ refl

-- ---- the theorem

-- of an entry's value, by its kind
value_handed : (k : Kind) (s : List ℕ) (i : ℕ) → run (stamped all_kinds) s 0 ≡ accepted 4 k → (j : ℕ) (e : Entry k) → run (entry k i) s 4 ≡ accepted j e
    → samples_of k e.held ≡ handed_out s i k (count_of k e.held)
value_handed jnt s i stamp j e w = total-sum object_samples still_object e.held.objects (object_lengths s i) (object_handed s i stamp j e w)
value_handed srt s i stamp j e w = total-sum track_samples [] e.held.tracks (track_lengths s i) (track_handed s i stamp j e w)
value_handed pat s i stamp j e w = total-sum key_count no_track e.held.tracks (key_lengths s i) (keys_handed s i stamp j e w)

-- in every section, the samples of an accepted entry's record are the lengths that the record calls hand out of it, added up
pub samples_handed : (k : Kind) (s : List ℕ) (i : ℕ) → run (stamped all_kinds) s 0 ≡ accepted 4 k → (m : ℕ) (r : EntryRecord) → answer (check i) s ≡ accepted m r
    → r.samples ≡ handed_out s i k r.count
samples_handed k s i stamp m r h =
    let w = accepted_first (entry k i) (λ x. done (record_of k x)) s 4 m r (sym (check_stamped s i k stamp) ∙ h) in
    subst (λ (x : EntryRecord). x.samples ≡ handed_out s i k x.count) (done_is _ s w.0 m r w.3) (value_handed k s i stamp w.0 w.1 w.2)

-- ---- how many there can be

-- what holds of the record of every entry that is as small as readers can give holds of every record that the check answers
check_all : (P : EntryRecord → Type 0) → ((k : Kind) (e : Entry k) → SizedValue k e.held → P (record_of k e)) → (s : List ℕ) → Bytes s
    → (i m : ℕ) (r : EntryRecord) → answer (check i) s ≡ accepted m r → P r
unfolding answer reader
check_all P f s b i m r =
    all_run P (reader (check i)) (all_after _ (stamped all_kinds) _ λ k. all_bind (λ e. SizedValue k e.held) _ (entry k i) _ (entry_all k i) (f k)) s b 0 m r

pub check_count : (s : List ℕ) → Bytes s → (i m : ℕ) (r : EntryRecord) → answer (check i) s ≡ accepted m r → r.count ≤ most_objects
check_count = check_all (λ r. r.count ≤ most_objects) (λ k e. count_few k e.held)

pub check_few : (s : List ℕ) → Bytes s → (i m : ℕ) (r : EntryRecord) → answer (check i) s ≡ accepted m r → r.samples < entry_bound
check_few = check_all (λ r. r.samples < entry_bound) (λ k e. samples_few k e.held)
