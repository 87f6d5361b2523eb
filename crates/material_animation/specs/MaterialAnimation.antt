-- An SRT0 entry. Positions and offsets count from the entry. Assumes nothing.
use Rattle.std.specs.Prelude.{ℕ, ◌*◌, Bool, ◌&&◌, ◌||◌, cond, List, [], ◌∷◌, eqb, take, drop, get_or, Float}
use Rattle.std.proofs.Math.Option.{Option, map}
use Rattle.util.specs.View.{word_at}
use Rattle.util.specs.Reader.{Reader, done, ◌>>=◌, ◌>>◌, bytes, word, list, each}
use Rattle.util.specs.Fixed.{fix1_10_5}
use Rattle.util.specs.Sums.{total}
use Rattle.matrix.specs.declared.Mat4.{Mat4}
use Rattle.matrix.specs.Matrix.{f0, translation4}
use Rattle.curve.specs.Curve.{ListRecord, Curve, none, samples, sample_count, number_of, mix, sample_at}
use Rattle.info_block.specs.Name.{Name, earliest}
use Rattle.info_block.specs.InfoBlock.{info_block}

pub record MaterialAnimation : Type 0 where
  pub frames : ℕ
  pub names : List Name
  -- the five channels of each track
  pub tracks : List (List (Curve Float))

-- how many values the lists of a track's channels have
abbrev pub track_samples : List (Curve Float) → ℕ
track_samples = total sample_count

-- a list that starts at frame 0, with a value for each frame
abbrev pub every_frame : ℕ → ℕ → ListRecord
every_frame frames off = record { start = 0; end = frames; place = off; size = 2; rate = 0; rest = 0 }

unfoldable pub channel_list : ℕ → ℕ → Reader (Curve Float)
channel_list frames off = do
  values ← list off 2 (number_of fix1_10_5) frames
  done (samples (every_frame frames off) values)

-- a channel's datum: frames u16, u8, flags u8, offset u32. Only channels 3 (u) and 4 (v) with flags 16 carry a list.
abbrev pub carries : ℕ → ℕ → Bool
carries n flags = (eqb n 3 || eqb n 4) && eqb flags 16

unfoldable pub channel : List ℕ → ℕ → Reader (Curve Float)
channel track n =
    let datum = take 8 (drop (8 * n) track) in
    cond (carries n (word_at 1 datum 3)) (channel_list (word_at 2 datum 0) (word_at 4 datum 4)) (done none)

abbrev pub channel_numbers : List ℕ
channel_numbers = 0 ∷ 1 ∷ 2 ∷ 3 ∷ 4 ∷ []

-- the channels of a track
abbrev pub channels : List ℕ → Reader (List (Curve Float))
channels track = each (channel track) channel_numbers

unfoldable pub material_animation : Reader MaterialAnimation
material_animation = do
  bytes 0 4
  frames ← word 4 2
  word 6 2
  block ← info_block 8 40
  tracks ← each channels block.datums
  done (record { frames = frames; names = block.names; tracks = tracks })

-- ---- a track at a frame

-- how far a texture is shifted
pub record Shift : Type 0 where
  pub u : Float
  pub v : Float

-- by the channels 3 and 4; 0 where the channel has no value
unfoldable pub shift_at : List (Curve Float) → ℕ → Shift
shift_at channels frame = record { u = sample_at mix f0 (get_or channels 3 none) frame; v = sample_at mix f0 (get_or channels 4 none) frame }

-- that of a name: of the earliest track whose name equals it, if there is one
unfoldable pub shift_of : Name → ℕ → MaterialAnimation → Option Shift
shift_of name frame a = map (λ t. shift_at (get_or a.tracks t []) frame) (earliest name a.names)

-- MaterialTrack::eval_uv_mat: the identity, its fourth column u, v, 0, 1
unfoldable pub uv_matrix_at : List (Curve Float) → ℕ → Mat4
uv_matrix_at channels frame = let shift = shift_at channels frame in translation4 shift.u shift.v f0
