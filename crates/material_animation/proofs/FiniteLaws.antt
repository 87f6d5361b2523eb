-- What a material animation's readers give is so large at most that no entry of a matrix is a NaN or an infinity, and so few that all its
-- lists together have fewer than 2^40 values. Assumes nothing.
use Prim.Native.Nat.{ℕ, ◌*◌, ◌≤◌, ◌<◌}
use mathlib.Core.List.{List}
use mathlib.Core.Path.{◌≡◌, refl}
use native.Mathlib.Omega.{arith}
use lib.Dec.{lit≤, lit<}
use lib.ListN.{length, take, drop, get_or}
use lib.Ieee.{Float}
use Rattle.util.specs.Fixed.{fix1_10_5}
use Rattle.util.specs.View.{word_at}
use Rattle.util.specs.Reader.{done, accepted, run}
use Rattle.util.specs.ReaderCode.{tally_of}
use Rattle.util.specs.Sums.{total}
use Rattle.util.proofs.All.{Bytes, bytes_drop, bytes_take, word_lt, Each, each_at, each_get_d, each_of, each_map, Many, All, list_all, all_run, all_map, all_cond, all_bind, all_after, all_each}
use Rattle.util.proofs.BelowLaws.{Small, Mixed, below_zero}
use Rattle.util.proofs.SumsLaws.{entry_bound, total-le, tally_le}
use Rattle.matrix.specs.Finite.{FiniteMat}
use Rattle.matrix.specs.Matrix.{f0}
use Rattle.matrix.proofs.MagnitudeLaws.{translation_below, below_mat}
use Rattle.info_block.proofs.BytesLaws.{datums_all}
use Rattle.curve.specs.Curve.{Curve, none, sample_count, mix, sample_at}
use Rattle.curve.proofs.MagnitudeLaws.{SizedCurve, count_few, scalar_sized, number_small, sized}
use Rattle.material_animation.specs.MaterialAnimation.{MaterialAnimation, track_samples, channel_list, carries, channel, channel_numbers, channels, material_animation, shift_at, uv_matrix_at}
use Rattle.material_animation.specs.MaterialAnimationCode.{track_at}

-- the channel_numbers channels of a track
abbrev pub SizedTrack : List (Curve Float) → Type 0
SizedTrack = Many (SizedCurve Small) 5

-- five lists, of 65,535 values at most
abbrev pub track_bound : ℕ
track_bound = 327675

sized_few : (cs : List (Curve Float)) → SizedTrack cs → track_samples cs ≤ track_bound
sized_few cs h =
    let n : length cs ≡ 5 = h.0 in
    let l = total-le sample_count 65535 cs (each_map (SizedCurve Small) (λ c. sample_count c ≤ 65535) (λ c k. let w = count_few Small c k in omega arith) cs h.1) in
    omega arith

pub uv_finite : (channels : List (Curve Float)) → SizedTrack channels → (frame : ℕ) → FiniteMat (uv_matrix_at channels frame)
unfolding shift_at uv_matrix_at
uv_finite channels h frame = below_mat (translation_below (at 3) (at 4) below_zero)
  where
    at : (n : ℕ) → Mixed (sample_at mix f0 (get_or channels n none) frame)
    at n = scalar_sized f0 below_zero (get_or channels n none) (each_get_d (SizedCurve Small) channels none h.1 tt n) frame

channel_list_all : (frames off : ℕ) → frames < 65536 → All (SizedCurve Small) (channel_list frames off)
unfolding channel_list
channel_list_all frames off l = all_bind (Many Small frames) _ _ _ (list_all Small off _ _ (λ bs _. number_small fix1_10_5 (lit≤ tt) bs) _) λ vs h. sized vs l (record { ordered = omega arith; frames = omega arith; below = lit< tt }) h

channel_all : (track : List ℕ) → Bytes track → (n : ℕ) → All (SizedCurve Small) (channel track n)
unfolding channel
channel_all track h n =
    let datum = take 8 (drop (8 * n) track) in
    let l : word_at 2 datum 0 < 65536 = word_lt 2 datum 0 (bytes_take 8 (drop (8 * n) track) (bytes_drop (8 * n) track h)) in
    all_cond _ (carries n (word_at 1 datum 3)) (channel_list (word_at 2 datum 0) (word_at 4 datum 4)) (done none) (channel_list_all _ _ l) tt

channels_all : (track : List ℕ) → Bytes track → All SizedTrack (channels track)
channels_all track h = all_each _ _ channel_numbers (each_of _ (channel_all track h) channel_numbers)

-- what code counts of a track's lists
pub track_few : (s : List ℕ) → Bytes s → (at m j c : ℕ) → accepted j c ≡ tally_of track_samples (run (channels (track_at s at)) s m) → c ≤ track_bound
track_few s h at m j c e =
    let sized = channels_all (track_at s at) (bytes_take 40 (drop at s) (bytes_drop at s h)) in
    tally_le track_samples track_bound (channels (track_at s at)) (all_map SizedTrack (λ cs. track_samples cs ≤ track_bound) sized_few (channels (track_at s at)) sized) s h m (accepted j c) e j c refl

abbrev pub SizedMaterial : MaterialAnimation → Type 0
SizedMaterial a = (length a.tracks < 256) × Each SizedTrack a.tracks

pub material_all : All SizedMaterial material_animation
unfolding material_animation
material_all =
    all_after _ _ _ λ _.
    all_after _ _ _ λ frames.
    all_after _ _ _ λ _.
    all_bind (λ block. (length block.datums < 256) × Each Bytes block.datums) _ _ _ (datums_all _ _) λ block h.
    let tracks_all = each_map Bytes (λ track. All SizedTrack (channels track)) channels_all block.datums h.1 in
    all_bind (Many SizedTrack (length block.datums)) _ _ _ (all_each _ _ block.datums tracks_all) λ tracks k.
    (let l = h.0 in let q = k.0 in omega arith, k.1)

pub material_few : (a : MaterialAnimation) → SizedMaterial a → total track_samples a.tracks < entry_bound
material_few a h =
    let n : length a.tracks < 256 = h.0 in
    let l = total-le track_samples track_bound a.tracks (each_map SizedTrack (λ cs. track_samples cs ≤ track_bound) sized_few a.tracks h.1) in
    omega arith

-- no entry of a sampled matrix is a NaN or an infinity, whatever bytes are read
pub material_finite : (s : List ℕ) → Bytes s → (m m' : ℕ) (a : MaterialAnimation) → run material_animation s m ≡ accepted m' a
    → (i : ℕ) → i < length a.tracks → (d : List (Curve Float)) (frame : ℕ) → FiniteMat (uv_matrix_at (get_or a.tracks i d) frame)
material_finite s b m m' a e i l d frame = uv_finite _ (each_at SizedTrack a.tracks d (all_run SizedMaterial material_animation material_all s b m m' a e).1 i l) frame
