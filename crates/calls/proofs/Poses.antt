-- The floats of a pose and of a clip are the matrix call's. Assumes nothing.
use Prim.Native.Nat.{ℕ, ◌+◌, ◌*◌, ◌≤◌, ◌<◌}
use mathlib.Core.Bool.{Bool, true, false}
use mathlib.Core.List.{List, ◌++◌}
use mathlib.Core.Path.{◌≡◌, refl, sym, ap, subst, ◌∙◌}
use native.Mathlib.Omega.{arith}
use borrow.Author.Tests.{lt-ltb, le-ltb, leb-true}
use lib.Dec.{leb}
use lib.Ieee.{Float}
use lib.ListN.{length, take, drop, get_or, length-drop}
use lib.Seq.{sets, length-sets, drop_at, drop-append-le, take-append-le}
use Rattle.util.specs.Reader.{Outcome, accepted, refused, run, given, answered, tell}
use Rattle.util.proofs.ReadsLaws.{not_both, stops}
use Rattle.util.proofs.WritesLaws.{sets_front}
use Rattle.matrix.specs.Matrix.{floats_of}
use Rattle.animation.specs.Animation.{Object, still_object, matrix_at}
use Rattle.nitro.specs.Container.{jnt, Entry, entry_of}
use Rattle.pose.specs.Pose.{Posed, frame_bound, pose_at, poses_from, pose_into, clip_into}
use Rattle.pose.proofs.PoseLaws.{poses_length, pose_there, place_inside, one_pose}
use Rattle.calls.specs.Calls.{ObjectQuery, matrix, of_object, pose, clip, ask_object, ask, on, reader, answer}
use Rattle.calls.specs.Poses.{HoldsMatrices, PosesHold, ClipsHold}
use Rattle.calls.proofs.CallsLaws.{entry_tells}

-- an entry that is read whole
module _ (s : List ℕ) (i m : ℕ) (e : Entry jnt) (h : run (entry_of jnt i) s 0 ≡ accepted m e) where
  abbrev objects : List Object
  objects = e.held.objects

  abbrev n : ℕ
  n = length objects

  matrix_told : (o frame : ℕ) → o < n → answer (on jnt i (of_object o (matrix frame))) s ≡ accepted m (matrix_at (get_or objects o still_object) frame)
  unfolding ask ask_object run
  matrix_told o frame l = entry_tells jnt s i (of_object o (matrix frame)) m e h ∙ rw (lt-ltb o n l) refl

  none_told : (o : ℕ) (q : ObjectQuery) → n ≤ o → answer (on jnt i (of_object o q)) s ≡ refused 9
  unfolding ask run
  none_told o q l = entry_tells jnt s i (of_object o q) m e h ∙ rw (le-ltb o n l) refl

  -- the poses in the slice are those
  module _ (first frames : ℕ) (out : List Float) (l : 16 * (n * frames) ≤ length out) where
    abbrev poses : List Float
    poses = poses_from objects first frames

    room : length poses ≤ length out
    room = rw (poses_length objects first frames) l

    slice_is : sets out 0 poses ≡ poses ++ drop (16 * (n * frames)) out
    slice_is = sets_front out poses room ∙ ap (λ (k : ℕ). poses ++ drop k out) (poses_length objects first frames)

    in_place : (o f : ℕ) → o < n → f < frames → take 16 (drop (16 * (n * f + o)) (sets out 0 poses)) ≡ floats_of (matrix_at (get_or objects o still_object) (first + f))
    in_place o f a b =
        let k = place_inside n o f frames a b in
        let z = poses_length objects first frames in
        ap (λ (x : List Float). take 16 (drop (16 * (n * f + o)) x)) slice_is
        ∙ ap (take 16) (drop-append-le (16 * (n * f + o)) poses (drop (16 * (n * frames)) out) (omega arith))
        ∙ take-append-le 16 (drop (16 * (n * f + o)) poses) (drop (16 * (n * frames)) out) (simp length-drop (omega arith))
        ∙ pose_there objects first frames o f a b

    pub holds : HoldsMatrices s i first frames m out (record { objects = n; slice = sets out 0 poses })
    holds =
        record {
          matrices = λ o f a b. (matrix_at (get_or objects o still_object) (first + f), matrix_told o (first + f) a, in_place o f a b);
          past = λ o a q. none_told o q a;
          behind = ap (drop (16 * (n * frames))) slice_is ∙ drop_at poses _ _ (poses_length objects first frames);
          size = length-sets out 0 poses;
        }

  clip_holds : (first frames : ℕ) (out : List Float) (b d : Bool) → leb (16 * (n * frames)) (length out) ≡ d
      → (k : ℕ) (r : Posed) → run (tell (given b 9 (given d 11 (answered (record { objects = n; slice = sets out 0 (poses_from objects first frames) }))))) s m ≡ accepted k r
      → HoldsMatrices s i first frames k out r
  unfolding run
  clip_holds first frames out true true q k r w =
      let x : m ≡ k = cc in
      let y : record { objects = n; slice = sets out 0 (poses_from objects first frames) } ≡ r = cc in
      subst (λ (j : ℕ). HoldsMatrices s i first frames j out r) x (subst (HoldsMatrices s i first frames m out) y (holds first frames out (leb-true _ _ q)))
  clip_holds first frames out true false q k r w = absurd (not_both w refl)
  clip_holds first frames out false d q k r w = absurd (not_both w refl)

  pose_holds : (frame : ℕ) (out : List Float) (d : Bool) → leb (16 * n) (length out) ≡ d
      → (k : ℕ) (r : Posed) → run (tell (given d 11 (answered (record { objects = n; slice = sets out 0 (pose_at objects frame) })))) s m ≡ accepted k r
      → HoldsMatrices s i frame 1 k out r
  unfolding run
  pose_holds frame out true q k r w =
      let x : m ≡ k = cc in
      let y : record { objects = n; slice = sets out 0 (pose_at objects frame) } ≡ r = cc in
      let z : record { objects = n; slice = sets out 0 (poses_from objects frame 1) } ≡ r = ap (λ (ps : List Float). record { objects = n; slice = sets out 0 ps }) (one_pose objects frame) ∙ y in
      let t : 16 * n ≤ length out = leb-true (16 * n) (length out) q in
      subst (λ (j : ℕ). HoldsMatrices s i frame 1 j out r) x (subst (HoldsMatrices s i frame 1 m out) z (holds frame 1 out (omega arith)))
  pose_holds frame out false q k r w = absurd (not_both w refl)

pub clips_hold : (s : List ℕ) → ClipsHold s
unfolding ask clip_into answer reader
clips_hold s i first frames out m r w = go (run (entry_of jnt i) s 0) refl
  where
    go : (x : Outcome (Entry jnt)) → run (entry_of jnt i) s 0 ≡ x → HoldsMatrices s i first frames m out r
    go (refused n) h = absurd (not_both w (stops _ _ _ _ n h))
    go (accepted j e) h = clip_holds s i j e h first frames out (leb (first + frames) frame_bound) _ refl m r (sym (entry_tells jnt s i (clip first frames out) j e h) ∙ w)

pub poses_hold : (s : List ℕ) → PosesHold s
unfolding ask pose_into answer reader
poses_hold s i frame out m r w = go (run (entry_of jnt i) s 0) refl
  where
    go : (x : Outcome (Entry jnt)) → run (entry_of jnt i) s 0 ≡ x → HoldsMatrices s i frame 1 m out r
    go (refused n) h = absurd (not_both w (stops _ _ _ _ n h))
    go (accepted j e) h = pose_holds s i j e h frame out _ refl m r (sym (entry_tells jnt s i (pose frame out) j e h) ∙ w)
