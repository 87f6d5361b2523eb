-- What the code of lib.rt answers: where the channels of an entry stand. Assumes nothing.
use Rattle.std.specs.Prelude.{ℕ, ◌≤◌, List, ◌≡◌, length, take, drop, Float, Result}
use Rattle.util.specs.declared.refusal.Refusal.{Refusal}
use Rattle.util.specs.Reader.{Outcome, accepted, run, each}
use Rattle.util.specs.ReaderCode.{Reads}
use Rattle.util.specs.Sums.{total}
use Rattle.material_animation.specs.declared.MaterialAnimation.{MaterialAnimation as Known}
use Rattle.material_animation.specs.declared.Shift.{Shift as CodeShift}
use Rattle.curve.specs.declared.ScalarCurve.{ScalarCurve}
use Rattle.curve.specs.Curve.{Curve}
use Rattle.curve.specs.CurveCode.{scalar_curve, Inside}
use Rattle.info_block.specs.InfoBlockCode.{block_at, WholeBlock}
use Rattle.material_animation.specs.MaterialAnimation.{MaterialAnimation, track_samples, channel, channels, material_animation, Shift}

-- the track whose datum stands at a position
abbrev pub track_at : List ℕ → ℕ → List ℕ
track_at s at = take 40 (drop at s)

-- ---- a channel

-- a channel that was read: its curve, and the reach after it
abbrev pub channel_means : List ℕ → ScalarCurve × ℕ → Outcome (Curve Float)
channel_means s c = accepted c.1 (scalar_curve s c.0)

-- a list that was read stands in the section
abbrev pub ChannelReads : List ℕ → ℕ → ℕ → ℕ → Result (ScalarCurve × ℕ) Refusal → Type 0
ChannelReads s at n reach x = Reads (channel_means s) (λ c. Inside s c.0) (channel (track_at s at) n) s reach x

-- v is the value of channel n at a frame, where `sampled` gives a curve's
abbrev pub ChannelGives : List ℕ → ℕ → ℕ → (Curve Float → Float) → Float → Type 0
ChannelGives s at n sampled v = (m : ℕ) (curve : Curve Float) → run (channel (track_at s at) n) s 0 ≡ accepted m curve → v ≡ sampled curve

-- ---- tracks and the entry

-- the track whose datum stands there has these five channels
pub record TrackIs (s : List ℕ) (at : ℕ) (curves : List (Curve Float)) : Type 0 where
  pub reach : ℕ
  pub reads : run (channels (track_at s at)) s 0 ≡ accepted reach curves

-- an accepted entry: what is held of it, and where the code says that it stands
pub record WholeMaterial (s : List ℕ) (a : Known) : Type 0 where
  pub held : MaterialAnimation
  pub reads : run material_animation s 0 ≡ accepted a.reach held
  pub frames : held.frames ≡ a.frames
  pub block : WholeBlock s 8 40 a.block
  pub names : held.names ≡ (block_at s 40 a.block).names
  pub tracks : (m : ℕ) × (run (each channels (block_at s 40 a.block).datums) s 0 ≡ accepted m held.tracks)
  pub samples : total track_samples held.tracks ≡ a.samples
  pub inside : a.reach ≤ length s

-- ---- a shift

abbrev pub shift_means : CodeShift → Shift
shift_means s = record { u = s.u; v = s.v }
