-- Calls on an object of a JNT0 entry, and on all of them. Assumes nothing.
use Prim.Native.Nat.{ℕ, ◌+◌, ◌-◌, ◌≤◌, ◌<◌}
use mathlib.Core.List.{List}
use mathlib.Core.Path.{◌≡◌, refl, sym, ap, subst, ◌∙◌}
use borrow.Author.Tests.{lt-ltb, le-ltb}
use lib.Ieee.{Float}
use lib.ListN.{length, take, drop}
use Rattle.std.specs.Prelude.{Result, IsErrAnd}
use Rattle.util.specs.declared.refusal.Refusal.{Refusal}
use Rattle.util.specs.RefusalCode.{number_of}
use Rattle.util.specs.ReaderCode.{verdict}
use Rattle.util.proofs.TryLaws.{passed_on}
use Rattle.util.specs.Reader.{Outcome, accepted, refused, run, Verdict, denied, told}
use Rattle.animation.specs.declared.Animation.{Animation as Known}
use Rattle.animation.specs.declared.TRSCurves.{TRSCurves}
use Rattle.animation.specs.declared.Tables.{Tables}
use Rattle.animation.specs.Animation.{Object, still_object}
use Rattle.animation.specs.AnimationCode.{object_curves, InsideObject, WholeAnimation}
use Rattle.trs.specs.TrsCode.{ObjectStands}
use Rattle.trs.proofs.TrsLaws.{same_object}
use Rattle.nitro.specs.declared.container.EntryAt.{EntryAt}
use Rattle.nitro.specs.Container.{jnt, Entry, entry_of}
use Rattle.nitro.specs.EntryCode.{Opened}
use Rattle.nitro.proofs.EntryLaws.{onward, onward_end}
use Rattle.pose.specs.Pose.{Posed, frame_bound, clip_into}
use Rattle.pose.specs.PoseCode.{Poses}
use Rattle.pose.proofs.PoseLaws.{pose_clip}
use Rattle.calls.specs.Calls.{ObjectQuery, ask_object, of_object, pose, clip, ask, on, answer}
use Rattle.jnt.specs.OpenedCode.{ObjectAt}
use Rattle.calls.proofs.CallsLaws.{entry_denied, entry_asked, asked}

module _ (s : List ℕ) (i : ℕ) (e : EntryAt) (a : Known) (w : Opened jnt WholeAnimation s i e a) (o : ℕ) where
  abbrev held : List Object
  held = w.whole.held.objects

  abbrev here : List ℕ
  here = drop e.offset s

  -- past the last object every query is refused
  pub no_object : a.objects ≤ o → (q : ObjectQuery) → told (answer (on jnt i (of_object o q)) s) ≡ denied 9
  unfolding ask
  no_object h q =
      let l : length held ≤ o = rw w.whole.count h in
      asked jnt s i (of_object o q) e w.stands a.reach w.whole.held w.whole.reads ∙ rw (le-ltb o (length held) l) refl

  -- an object is what its curves say
  pub object_found : o < a.objects → ObjectAt s i o e.offset a
  unfolding ask
  object_found h =
      let l : o < length held = rw w.whole.count h in
      record {
        start = w.stands.holds;
        whole = w.whole;
        there = h;
        answers = λ q c k.
            asked jnt s i (of_object o q) e w.stands a.reach w.whole.held w.whole.reads
            ∙ rw (lt-ltb o (length held) l) (ap (ask_object q e.offset) (sym (same_object here a w.whole o still_object h c k) ∙ ap (λ (t : Tables). object_curves t here c) (sym w.whole.tables)));
      }

-- ---- its curves, as they are read from what is lent of the section, which starts at the entry

module _ {s : List ℕ} {i o offset : ℕ} {a : Known} (w : ObjectAt s i o offset a) where
  abbrev lent : List ℕ
  lent = take (length s - offset) (drop offset s)

  pub entry_here : WholeAnimation lent a × (o < a.objects)
  entry_here = (subst (λ (x : List ℕ). WholeAnimation x a) (sym (onward offset s)) w.whole, w.there)

  -- it ends with the section
  pub ends_here : offset + length lent ≡ length s
  ends_here = ap (λ (x : List ℕ). offset + length x) (onward offset s) ∙ onward_end s offset w.start

  module _ {c : TRSCurves} (k : ObjectStands lent o c) where
    pub inside_here : InsideObject a.tables lent c
    inside_here = subst (λ (t : Tables). InsideObject t lent c) (sym entry_here.0.tables) k.inside

    pub told_here : (q : ObjectQuery) → told (answer (on jnt i (of_object o q)) s) ≡ ask_object q offset (object_curves a.tables lent c)
    told_here q = w.answers q c (subst (λ (x : List ℕ). ObjectStands x o c) (onward offset s) k) ∙ ap (λ (x : List ℕ). ask_object q offset (object_curves a.tables x c)) (sym (onward offset s))

-- a call that hands on what its entry or its object is refused with
pub hands_on : {X A : Type 0} (means : X → A) (e : Refusal) (x : Result X Refusal) {v : Verdict A} → IsErrAnd x (λ y. y ≡ e) → v ≡ denied (number_of e) → verdict means x ≡ v
hands_on means e x h k = ap (verdict means) (passed_on e x h) ∙ sym k

-- ---- all objects

-- what filming an opened entry leaves, as it is read from what is lent of the section, is the call's answer
module _ (s : List ℕ) (i : ℕ) (e : EntryAt) (a : Known) (w : Opened jnt WholeAnimation s i e a) (first frames : ℕ) (out : List Float) where
  pub clip_told : (r : Result ℕ Refusal) (after : List Float)
      → ((x : WholeAnimation (take (length s - e.offset) (drop e.offset s)) a) → Poses (clip_into x.held.objects first frames out) r out after)
      → Poses (told (answer (on jnt i (clip first frames out)) s)) r out after
  unfolding ask
  clip_told r after h =
      subst (λ (v : Verdict Posed). Poses v r out after)
      (sym (asked jnt s i (clip first frames out) e w.stands a.reach w.whole.held w.whole.reads))
      (subst (λ (x : List ℕ). (y : WholeAnimation x a) → Poses (clip_into y.held.objects first frames out) r out after) (onward e.offset s) h w.whole)

-- a pose is a clip of one frame
pub pose_is_clip : (s : List ℕ) (i frame : ℕ) (out : List Float) → frame < frame_bound → told (answer (on jnt i (clip frame 1 out)) s) ≡ told (answer (on jnt i (pose frame out)) s)
unfolding ask
pose_is_clip s i frame out h = go (run (entry_of jnt i) s 0) refl
  where
    go : (o : Outcome (Entry jnt)) → run (entry_of jnt i) s 0 ≡ o → told (answer (on jnt i (clip frame 1 out)) s) ≡ told (answer (on jnt i (pose frame out)) s)
    go (accepted m e) q = entry_asked jnt s i (clip frame 1 out) m e q ∙ (sym (pose_clip e.held.objects frame out h) ∙ sym (entry_asked jnt s i (pose frame out) m e q))
    go (refused n) q = entry_denied jnt s i (clip frame 1 out) n q ∙ sym (entry_denied jnt s i (pose frame out) n q)
