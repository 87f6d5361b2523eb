-- Where the matrices of a pose and of a clip stand, and what writes them. Assumes nothing.
use Prim.Native.Nat.{ℕ, zero, suc, ◌+◌, ◌*◌, ◌≤◌, ◌<◌}
use mathlib.Core.List.{List, [], ◌∷◌, ◌++◌, append-nil, append_assoc}
use mathlib.Core.Logic.{⊎_elim}
use mathlib.Core.Path.{◌≡◌, refl, sym, ap, subst, ◌∙◌}
use native.Mathlib.Nat.{mul-le-mul, mul-le-mul_left, mul-one, mul_assoc, add-zero}
use native.Mathlib.Omega.{arith}
use borrow.Author.Tests.{le-leb, lt-leb}
use lib.Ieee.{Float}
use lib.ListN.{length, take, drop, get_or, take-append-drop}
use lib.Seq.{sets, length-sets, drop-drop, drop-append-le, take_at}
use Rattle.util.proofs.All.{Bytes, all_run}
use Rattle.util.proofs.Cut.{le_or_lt}
use Rattle.util.proofs.PiecesLaws.{written_there, kept_before, kept_behind, joined, joined_same, pieces_joined, joined_length, joined_at}
use Rattle.util.proofs.WritesLaws.{sets_front}
use Rattle.matrix.specs.declared.Mat4.{Mat4}
use Rattle.matrix.specs.Matrix.{floats_of}
use Rattle.animation.specs.declared.Animation.{Animation as Known}
use Rattle.animation.specs.declared.Tables.{Tables}
use Rattle.animation.specs.declared.TRSCurves.{TRSCurves}
use Rattle.animation.specs.Animation.{Object, still_object, matrix_at, most_objects, animation}
use Rattle.animation.specs.AnimationCode.{WholeAnimation, object_curves, InsideObject}
use Rattle.animation.proofs.FiniteLaws.{SizedAnimation, animation_all}
use Rattle.trs.specs.TrsCode.{ObjectStands}
use Rattle.trs.proofs.TrsLaws.{same_object}
use Rattle.pose.specs.Pose.{pose_at, poses_from, pose_into, clip_into, frame_bound}
use Rattle.pose.specs.PoseCode.{Poses, sixteen_at, Filmed}
use Rattle.std.specs.Prelude.{Ok, Err}
use Rattle.util.specs.declared.refusal.Refusal.TheVariants.{NoSuchIndex, SmallSlice}

-- ---- poses and clips, as pieces

-- the floats of an object of a list
abbrev object_floats : List Object → ℕ → ℕ → List Float
object_floats objects frame o = floats_of (matrix_at (get_or objects o still_object) frame)

pose_joined : (objects : List Object) (frame : ℕ) → pose_at objects frame ≡ joined (object_floats objects frame) (length objects)
unfolding pose_at
pose_joined [] frame = refl
pose_joined (o ∷ os) frame = ap (λ (x : List Float). floats_of (matrix_at o frame) ++ x) (pose_joined os frame)

poses_joined : (objects : List Object) (first frames : ℕ) → poses_from objects first frames ≡ joined (λ f. pose_at objects (first + f)) frames
unfolding poses_from
poses_joined objects first zero = refl
poses_joined objects first (suc frames) =
    rw (add-zero first)
    (ap (λ (x : List Float). pose_at objects first ++ x)
    (poses_joined objects (first + 1) frames ∙ joined_same _ _ (λ k. ap (pose_at objects) (later first k)) frames))
  where
    later : (first k : ℕ) → first + 1 + k ≡ first + suc k
    later first k = omega arith

pub pose_length : (objects : List Object) (frame : ℕ) → length (pose_at objects frame) ≡ 16 * length objects
pose_length objects frame = ap length (pose_joined objects frame) ∙ joined_length 16 (object_floats objects frame) (λ k. refl) (length objects)

module _ (objects : List Object) (first frames : ℕ) where
  abbrev n : ℕ
  n = length objects

  pub poses_length : length (poses_from objects first frames) ≡ 16 * (n * frames)
  poses_length =
      ap length (poses_joined objects first frames) ∙ joined_length (16 * n) (λ f. pose_at objects (first + f)) (λ f. pose_length objects (first + f)) frames ∙ mul_assoc 16 n frames

  -- the matrix of object o in pose f
  pub pose_there : (o f : ℕ) → o < n → f < frames → sixteen_at (poses_from objects first frames) (n * f + o) ≡ floats_of (matrix_at (get_or objects o still_object) (first + f))
  pose_there o f h k =
      let pose = pose_at objects (first + f) in
      let own = object_floats objects (first + f) o in
      let x = joined_at (16 * n) (λ f. pose_at objects (first + f)) (λ f. pose_length objects (first + f)) frames f k in
      let y = joined_at 16 (object_floats objects (first + f)) (λ o. refl) n o h in
      let e : 16 * (n * f + o) ≡ 16 * n * f + 16 * o = omega arith in
      let l = pose_length objects (first + f) in
      ap (λ (t : List Float). sixteen_at t (n * f + o)) (poses_joined objects first frames)
      ∙ ap (take 16)
      (ap (λ (i : ℕ). drop i (joined (λ f. pose_at objects (first + f)) frames)) e
      ∙ sym (drop-drop (16 * o) (16 * n * f) (joined (λ f. pose_at objects (first + f)) frames))
      ∙ ap (drop (16 * o)) x.1
      ∙ drop-append-le (16 * o) pose x.0 (omega arith)
      ∙ ap (λ (t : List Float). t ++ x.0) (ap (drop (16 * o)) (pose_joined objects (first + f)) ∙ y.1)
      ∙ append_assoc own y.0 x.0)
      ∙ take_at own (y.0 ++ x.0) 16 refl

-- a clip of one frame is a pose
pub one_pose : (objects : List Object) (frame : ℕ) → poses_from objects frame 1 ≡ pose_at objects frame
unfolding poses_from
one_pose objects frame = append-nil (pose_at objects frame)

pub pose_clip : (objects : List Object) (frame : ℕ) (out : List Float) → frame < frame_bound → pose_into objects frame out ≡ clip_into objects frame 1 out
unfolding pose_into clip_into
pose_clip objects frame out h =
    let l : frame + 1 ≤ frame_bound = omega arith in
    rw (le-leb (frame + 1) frame_bound l, mul-one (length objects), one_pose objects frame) refl

-- ---- places of sixteen floats

module _ (n : ℕ) where
  -- every place of a pose stands before those of the poses after it
  pub pose_before : (o f g o' : ℕ) → o < n → f < g → n * f + o < n * g + o'
  pose_before o f g o' h k = let l = mul-le-mul_left n k in omega arith

  -- so a place is of one object in one pose
  same_pose : (o f g o' : ℕ) → o < n → o' < n → n * f + o ≡ n * g + o' → f ≡ g
  same_pose o f g o' h h' e =
      ⊎_elim (λ l. ⊎_elim (λ r. omega arith) (λ r. let z = pose_before o f g o' h r in absurd (omega arith)) (le_or_lt g f)) (λ r. let z = pose_before o' g f o h' r in absurd (omega arith)) (le_or_lt f g)

  pub same_place : (o f g o' : ℕ) → o < n → o' < n → n * f + o ≡ n * g + o' → o ≡ o'
  same_place o f g o' h h' e = let q = same_pose o f g o' h h' e in let p = ap (λ (k : ℕ). n * k) q in omega arith

  -- .. and every place of the poses so far stands before the next pose
  pub place_inside : (o f frames : ℕ) → o < n → f < frames → n * f + o < n * frames
  place_inside o f frames h k = let l = pose_before o f frames 0 h k in omega arith

-- one place is written: it holds the matrix, and every other place is as it was
module _ (l : List Float) (j : ℕ) (m : Mat4) where
  pub place_written : 16 * j + 16 ≤ length l → sixteen_at (sets l (16 * j) (floats_of m)) j ≡ floats_of m
  place_written h = written_there (floats_of m) l (16 * j) h

  pub place_kept : (k : ℕ) → (k ≡ j → ⊥) → sixteen_at (sets l (16 * j) (floats_of m)) k ≡ sixteen_at l k
  place_kept k h =
      ⊎_elim (λ a. ap (take 16) (kept_behind (floats_of m) l (16 * j) (16 * k) (omega arith))) (λ a. kept_before (floats_of m) l (16 * j) (16 * k) 16 (omega arith)) (le_or_lt (j + 1) k)

-- ---- an object filmed, a frame after the other

module _ (object : Object) (o n first : ℕ) (before : List Float) where
  pub film_none : Filmed object o n first 0 before before
  film_none = record { size = refl; own = λ f h. absurd (omega arith); others = λ k h. refl; behind = refl }

  pub film_more : (f : ℕ) (l : List Float) → o < n → 16 * (n * f + o) + 16 ≤ length before → Filmed object o n first f before l
      → (m : Mat4) → m ≡ matrix_at object (first + f) → Filmed object o n first (f + 1) before (sets l (16 * (n * f + o)) (floats_of m))
  film_more f l h r w m e =
      let j = n * f + o in
      let after = sets l (16 * j) (floats_of m) in
      let size = w.size in
      let room : 16 * j + 16 ≤ length l = omega arith in
      let next : 16 * (n * (f + 1)) ≡ 16 * (n * f) + 16 * n = omega arith in
      record {
        size = length-sets l (16 * j) (floats_of m) ∙ w.size;
        own = λ g k.
            ⊎_elim
            (λ a. let q : f ≡ g = omega arith in subst (λ (g : ℕ). sixteen_at after (n * g + o) ≡ floats_of (matrix_at object (first + g))) q (place_written l j m room ∙ ap floats_of e))
            (λ a. place_kept l j m (n * g + o) (λ q. let z = pose_before n o g f o h a in omega arith) ∙ w.own g a)
            (le_or_lt f g);
        others = λ k q. place_kept l j m k (q f (omega arith)) ∙ w.others k (λ g a. q g (omega arith));
        behind =
            kept_behind (floats_of m) l (16 * j) (16 * (n * (f + 1))) (omega arith)
            ∙ ap (λ (i : ℕ). drop i l) next
            ∙ sym (drop-drop (16 * n) (16 * (n * f)) l)
            ∙ ap (drop (16 * n)) w.behind
            ∙ drop-drop (16 * n) (16 * (n * f)) before
            ∙ ap (λ (i : ℕ). drop i before) (sym next);
      }

-- ---- all objects, one after the other

-- the first o of n objects are filmed
pub record Shot (objects : List Object) (n first frames : ℕ) (before : List Float) (o : ℕ) (after : List Float) : Type 0 where
  pub size : length after ≡ length before
  pub own : (p : ℕ) → p < o → (f : ℕ) → f < frames → sixteen_at after (n * f + p) ≡ floats_of (matrix_at (get_or objects p still_object) (first + f))
  pub behind : drop (16 * (n * frames)) after ≡ drop (16 * (n * frames)) before

module _ (objects : List Object) (n first frames : ℕ) (before : List Float) where
  pub shot_none : Shot objects n first frames before 0 before
  shot_none = record { size = refl; own = λ p h f k. absurd (omega arith); behind = refl }

  pub shot_more : (o : ℕ) (l after : List Float) → o < n → Shot objects n first frames before o l → Filmed (get_or objects o still_object) o n first frames l after → Shot objects n first frames before (o + 1) after
  shot_more o l after h s w =
      record {
        size = w.size ∙ s.size;
        own = λ p q f k.
            ⊎_elim
            (λ a. let e : o ≡ p = omega arith in subst (λ (p : ℕ). sixteen_at after (n * f + p) ≡ floats_of (matrix_at (get_or objects p still_object) (first + f))) e (w.own f k))
            (λ a. w.others (n * f + p) (λ g b e. let z = same_place n p f g o (omega arith) h e in omega arith) ∙ s.own p a f k)
            (le_or_lt o p);
        behind = w.behind ∙ s.behind;
      }

pub shot_all : (objects : List Object) (n first frames : ℕ) (before after : List Float) → length objects ≡ n → 16 * (n * frames) ≤ length before
    → Shot objects n first frames before n after → after ≡ sets before 0 (poses_from objects first frames)
shot_all objects n first frames before after c h s =
    let clip = poses_from objects first frames in
    let all = 16 * (n * frames) in
    let size : length clip ≡ all = rw (poses_length objects first frames, c) refl in
    let l : length clip ≤ length before = omega arith in
    let wide : all ≡ 16 * n * frames = omega arith in
    let front : take all after ≡ clip = ap (λ (k : ℕ). take k after) wide ∙ pieces_joined (16 * n) (λ f. pose_at objects (first + f)) frames after pose ∙ sym (poses_joined objects first frames) in
    sym (take-append-drop all after)
    ∙ ap (λ (t : List Float). t ++ drop all after) front
    ∙ ap (λ (t : List Float). clip ++ t) (s.behind ∙ ap (λ (k : ℕ). drop k before) (sym size))
    ∙ sym (sets_front before clip l)
  where
    place : (n f o : ℕ) → 16 * n * f + 16 * o ≡ 16 * (n * f + o)
    place n f o = omega arith

    pose : (f : ℕ) → f < frames → take (16 * n) (drop (16 * n * f) after) ≡ pose_at objects (first + f)
    pose f k =
        pieces_joined 16 (object_floats objects (first + f)) n (drop (16 * n * f) after)
        (λ o q. ap (take 16) (drop-drop (16 * o) (16 * n * f) after ∙ ap (λ (i : ℕ). drop i after) (place n f o)) ∙ s.own o q f k)
        ∙ ap (joined (object_floats objects (first + f))) (sym c)
        ∙ sym (pose_joined objects (first + f))

-- ---- the answer, and what the slice holds

module _ (objects : List Object) (n first frames : ℕ) (out : List Float) (c : length objects ≡ n) where
  pub past_frames : frame_bound < first + frames → Poses (clip_into objects first frames out) (Err NoSuchIndex) out out
  unfolding clip_into
  past_frames h = rw (lt-leb (first + frames) frame_bound h) (refl, refl)

  module _ (h : first + frames ≤ frame_bound) where
    pub too_small : length out < 16 * (n * frames) → Poses (clip_into objects first frames out) (Err SmallSlice) out out
    unfolding clip_into
    too_small l = rw (le-leb (first + frames) frame_bound h, c, lt-leb (16 * (n * frames)) (length out) l) (refl, refl)

    pub filmed : 16 * (n * frames) ≤ length out → (after : List Float) → Shot objects n first frames out n after → Poses (clip_into objects first frames out) (Ok n) out after
    unfolding clip_into
    filmed l after s =
        rw (le-leb (first + frames) frame_bound h, c, le-leb (16 * (n * frames)) (length out) l, ← shot_all objects n first frames out after c l s) (refl, refl)

-- ---- a whole entry

module _ (s : List ℕ) (a : Known) (w : WholeAnimation s a) where
  -- it has few objects, so that the floats of so many frames can be counted
  pub floats_few : Bytes s → (frames : ℕ) → frames ≤ frame_bound → (a.objects ≤ most_objects) × (16 * (a.objects * frames) < 18446744073709551616)
  floats_few b frames h =
      let few : length w.held.objects ≤ most_objects = (all_run SizedAnimation animation animation_all s b 0 a.reach w.held w.reads).0 in
      let l : a.objects ≤ most_objects = rw (← w.count) few in
      let m = mul-le-mul l h in
      (l, omega arith)

  -- the curves of object o stand in it, and are the object's
  module _ (o : ℕ) (h : o < a.objects) (c : TRSCurves) (k : ObjectStands s o c) where
    pub object_inside : InsideObject a.tables s c
    object_inside = subst (λ (t : Tables). InsideObject t s c) (sym w.tables) k.inside

    pub object_found : object_curves a.tables s c ≡ get_or w.held.objects o still_object
    object_found = ap (λ (t : Tables). object_curves t s c) w.tables ∙ same_object s a w o still_object h c k
