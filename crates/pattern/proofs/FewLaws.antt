-- What a pattern's readers give is so few that all its tracks together have fewer than 2^40 keys. Assumes nothing.
use Prim.Native.Nat.{ℕ, ◌≤◌, ◌<◌}
use mathlib.Core.List.{List}
use mathlib.Core.Path.{◌≡◌, refl}
use native.Mathlib.Omega.{arith}
use lib.ListN.{length, take, drop}
use Rattle.util.specs.View.{word_at}
use Rattle.util.specs.Reader.{accepted, run}
use Rattle.util.specs.ReaderCode.{tally_of}
use Rattle.util.specs.Sums.{total}
use Rattle.util.proofs.All.{Bytes, bytes_drop, bytes_take, word_lt, Each, each_map, Many, All, length_all, all_bind, all_after, all_each}
use Rattle.util.proofs.SumsLaws.{entry_bound, total-le, tally_le}
use Rattle.info_block.proofs.BytesLaws.{datums_all}
use Rattle.pattern.specs.Pattern.{Track, Pattern, key_count, track, pattern}

-- a track's keys: their count is a word of four bytes
abbrev pub keys_bound : ℕ
keys_bound = 4294967295

abbrev pub FewKeys : Track → Type 0
FewKeys t = key_count t ≤ keys_bound

keys_few : (textures palettes : ℕ) (datum : List ℕ) → Bytes datum → All FewKeys (track textures palettes datum)
unfolding track
keys_few textures palettes datum h =
    let l : word_at 4 datum 0 < 4294967296 = word_lt 4 datum 0 h in
    all_bind (λ keys. length keys ≡ word_at 4 datum 0) _ _ _ (length_all (word_at 2 datum 6) _ _ _) λ keys n.
    all_after _ _ _ λ _.
    omega arith

-- what code counts of a track's keys
pub track_few : (textures palettes : ℕ) (s : List ℕ) → Bytes s → (at m j c : ℕ) → accepted j c ≡ tally_of key_count (run (track textures palettes (take 8 (drop at s))) s m) → c ≤ keys_bound
track_few textures palettes s h at m j c e =
    let datum = take 8 (drop at s) in
    tally_le key_count keys_bound (track textures palettes datum) (keys_few textures palettes datum (bytes_take 8 (drop at s) (bytes_drop at s h))) s h m (accepted j c) e j c refl

abbrev pub FewPattern : Pattern → Type 0
FewPattern a = (length a.tracks < 256) × Each FewKeys a.tracks

pub pattern_all : All FewPattern pattern
unfolding pattern
pattern_all =
    all_after _ _ _ λ _.
    all_after _ _ _ λ frames.
    all_after _ _ _ λ textures.
    all_after _ _ _ λ palettes.
    all_after _ _ _ λ texture_off.
    all_after _ _ _ λ palette_off.
    all_after _ _ _ λ _.
    all_after _ _ _ λ _.
    all_bind (λ block. (length block.datums < 256) × Each Bytes block.datums) _ _ _ (datums_all _ _) λ block h.
    let tracks_all = each_map Bytes (λ datum. All FewKeys (track textures palettes datum)) (keys_few textures palettes) block.datums h.1 in
    all_bind (Many FewKeys (length block.datums)) _ _ _ (all_each _ _ block.datums tracks_all) λ tracks k.
    (let l = h.0 in let q = k.0 in omega arith, k.1)

pub pattern_few : (a : Pattern) → FewPattern a → total key_count a.tracks < entry_bound
pattern_few a h =
    let n : length a.tracks < 256 = h.0 in
    let l = total-le key_count keys_bound a.tracks h.1 in
    omega arith
