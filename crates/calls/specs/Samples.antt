-- The samples of an entry, as a caller finds them who adds up the records that the calls hand out. That they are the samples of the check's
-- record is proved in proofs/Samples.antt, for every section. Assumes nothing.
use Rattle.std.specs.Prelude.{ℕ, ◌+◌, List}
use Rattle.util.specs.Reader.{Outcome, accepted, refused}
use Rattle.util.specs.Sums.{sum_to}
use Rattle.curve.specs.Curve.{Recorded, no_curve, always, listed}
use Rattle.animation.specs.Animation.{Triple, translation, scale}
use Rattle.nitro.specs.Container.{Kind, jnt, srt, pat}
use Rattle.calls.specs.Calls.{of_object, curve, rotation_curve, of_material, channel_curve, of_pattern, keys, on, answer}

-- what an answer adds to a sum: a refusal adds nothing
abbrev pub adds : {A : Type 0} → (A → ℕ) → Outcome A → ℕ
adds f (accepted m a) = f a
adds f (refused n) = 0

-- the length that a curve's record tells
abbrev pub length_of : {A : Type 0} → Recorded A → ℕ
length_of no_curve = 0
length_of (always v) = 0
length_of (listed l n) = n

-- the lengths that the calls on entry i hand out
module _ (s : List ℕ) (i : ℕ) where
  abbrev pub axes_lengths : ℕ → Triple → ℕ
  axes_lengths object which = sum_to 3 (λ axis. adds length_of (answer (on jnt i (of_object object (curve which axis))) s))

  abbrev pub object_lengths : ℕ → ℕ
  object_lengths object = axes_lengths object translation + adds length_of (answer (on jnt i (of_object object rotation_curve)) s) + axes_lengths object scale

  abbrev pub track_lengths : ℕ → ℕ
  track_lengths track = sum_to 5 (λ channel. adds length_of (answer (on srt i (of_material track (channel_curve channel))) s))

  abbrev pub key_lengths : ℕ → ℕ
  key_lengths track = adds (λ l. l.length) (answer (on pat i (of_pattern track keys)) s)

  -- of each of its n objects or tracks
  abbrev pub handed_out : Kind → ℕ → ℕ
  handed_out jnt n = sum_to n object_lengths
  handed_out srt n = sum_to n track_lengths
  handed_out pat n = sum_to n key_lengths
