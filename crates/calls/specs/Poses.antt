-- What a pose and a clip hold: the matrix call's answers, each at its place. Proved in proofs/Poses.antt for every section, with nothing else
-- assumed.
use Rattle.std.specs.Prelude.{ℕ, ◌+◌, ◌*◌, ◌≤◌, ◌<◌, List, ◌≡◌, Float, length, take, drop}
use Rattle.util.specs.Reader.{accepted, refused}
use Rattle.matrix.specs.declared.Mat4.{Mat4}
use Rattle.matrix.specs.Matrix.{floats_of}
use Rattle.nitro.specs.Container.{jnt}
use Rattle.pose.specs.Pose.{Posed}
use Rattle.calls.specs.Calls.{ObjectQuery, matrix, of_object, pose, clip, on, answer}

-- of an entry whose parts end at m: `slice` was written over `out`, at so many frames from `first` on
pub record HoldsMatrices (s : List ℕ) (entry first frames m : ℕ) (out : List Float) (r : Posed) : Type 0 where
  -- the sixteen floats of object o at frame first + f are the matrix call's
  pub matrices : (o f : ℕ) → o < r.objects → f < frames
      → (v : Mat4) × (answer (on jnt entry (of_object o (matrix (first + f)))) s ≡ accepted m v) × (take 16 (drop (16 * (r.objects * f + o)) r.slice) ≡ floats_of v)
  -- there are no more objects
  pub past : (o : ℕ) → r.objects ≤ o → (q : ObjectQuery) → answer (on jnt entry (of_object o q)) s ≡ refused 9
  -- all behind them is as it was
  pub behind : drop (16 * (r.objects * frames)) r.slice ≡ drop (16 * (r.objects * frames)) out
  pub size : length r.slice ≡ length out

abbrev pub PosesHold : List ℕ → Type 0
PosesHold s = (entry frame : ℕ) (out : List Float) (m : ℕ) (r : Posed) → answer (on jnt entry (pose frame out)) s ≡ accepted m r → HoldsMatrices s entry frame 1 m out r

abbrev pub ClipsHold : List ℕ → Type 0
ClipsHold s = (entry first frames : ℕ) (out : List Float) (m : ℕ) (r : Posed) → answer (on jnt entry (clip first frames out)) s ≡ accepted m r → HoldsMatrices s entry first frames m out r
