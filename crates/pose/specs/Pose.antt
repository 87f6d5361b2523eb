-- Poses and clips: the matrices of all objects of an entry, at a frame and at frames one after the other, as floats in a lent slice. Assumes
-- nothing.
use Rattle.std.specs.Prelude.{ℕ, zero, suc, ◌+◌, ◌*◌, List, [], ◌∷◌, ◌++◌, leb, length, Float}
use Rattle.std.proofs.lemmas.List.Edits.{sets}
use Rattle.util.specs.Reader.{Verdict, answered, denied, given}
use Rattle.matrix.specs.Matrix.{floats_of}
use Rattle.animation.specs.Animation.{Object, matrix_at}

-- the matrices of the objects at a frame, in order
unfoldable pub pose_at : List Object → ℕ → List Float
pose_at [] frame = []
pose_at (o ∷ os) frame = floats_of (matrix_at o frame) ++ pose_at os frame

-- the poses at first, first + 1, .., one after the other: so many frames
unfoldable pub poses_from : List Object → (first frames : ℕ) → List Float
poses_from objects first zero = []
poses_from objects first (suc frames) = pose_at objects first ++ poses_from objects (first + 1) frames

-- ---- into a lent slice

-- how many objects there are, and the lent slice with what was written
pub record Posed : Type 0 where
  pub objects : ℕ
  pub slice : List Float

-- frames are words of sixteen bits
abbrev pub frame_bound : ℕ
frame_bound = 65536

-- 11 if sixteen floats an object exceed the slice; all elements behind them are as they were
unfoldable pub pose_into : List Object → ℕ → List Float → Verdict Posed
pose_into objects frame out =
    given (leb (16 * length objects) (length out)) 11
    (answered (record { objects = length objects; slice = sets out 0 (pose_at objects frame) }))

-- 9 if first + frames passes the bound of frames, then 11 if sixteen floats an object and frame exceed the slice
unfoldable pub clip_into : List Object → (first frames : ℕ) → List Float → Verdict Posed
clip_into objects first frames out =
    given (leb (first + frames) frame_bound) 9
    (given (leb (16 * (length objects * frames)) (length out)) 11
    (answered (record { objects = length objects; slice = sets out 0 (poses_from objects first frames) })))

-- what is left in the slice `out`: as it was, where the call refuses
abbrev pub posed_slice : List Float → Verdict Posed → List Float
posed_slice out (answered r) = r.slice
posed_slice out (denied n) = out
