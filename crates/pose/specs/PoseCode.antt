-- What the code of this crate answers, and where it writes. Assumes nothing.
use Rattle.std.specs.Prelude.{ℕ, ◌+◌, ◌*◌, ◌<◌, List, ◌≡◌, Float, length, take, drop, Result}
use Rattle.util.specs.declared.refusal.Refusal.{Refusal}
use Rattle.util.specs.Reader.{Verdict}
use Rattle.util.specs.ReaderCode.{verdict}
use Rattle.matrix.specs.Matrix.{floats_of}
use Rattle.animation.specs.Animation.{Object, matrix_at}
use Rattle.pose.specs.Pose.{Posed, posed_slice}

-- the answer, with the slice as it was left
abbrev pub posing_means : Result ℕ Refusal → List Float → Verdict Posed
posing_means x slice = verdict (λ n. record { objects = n; slice = slice }) x

-- a call with this verdict, by what it answers and by the slice before and after it
abbrev pub Poses : Verdict Posed → Result ℕ Refusal → List Float → List Float → Type 0
Poses v r before after = (posing_means r after ≡ v) × (after ≡ posed_slice before v)

-- the sixteen floats of place k, where every place has as many
abbrev pub sixteen_at : List Float → ℕ → List Float
sixteen_at out k = take 16 (drop (16 * k) out)

-- of n objects, number o is written: in each of so many poses its own sixteen floats, and no others
pub record Filmed (object : Object) (o n first frames : ℕ) (before after : List Float) : Type 0 where
  pub size : length after ≡ length before
  pub own : (f : ℕ) → f < frames → sixteen_at after (n * f + o) ≡ floats_of (matrix_at object (first + f))
  pub others : (k : ℕ) → ((f : ℕ) → f < frames → k ≡ n * f + o → ⊥) → sixteen_at after k ≡ sixteen_at before k
  pub behind : drop (16 * (n * frames)) after ≡ drop (16 * (n * frames)) before
