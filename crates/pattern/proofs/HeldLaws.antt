-- What an accepted pattern entry holds. Assumes nothing.
use Prim.Native.Nat.{ℕ, ◌+◌, ◌*◌, ◌≤◌, ◌<◌}
use mathlib.Core.Bool.{true}
use mathlib.Core.List.{List}
use mathlib.Core.Path.{◌≡◌, sym, ap, subst, ◌∙◌}
use lib.ListN.{length, drop}
use Rattle.util.specs.View.{word_at, view}
use Rattle.util.specs.Reader.{accepted, run, bind, each, unless}
use Rattle.util.proofs.All.{Bytes, word_lt, Each}
use Rattle.util.proofs.Calls.{accepted_first}
use Rattle.util.proofs.Cut.{had_part}
use Rattle.util.proofs.Each.{each_read, each_gives}
use Rattle.util.proofs.ReadsLaws.{done_is, test_held}
use Rattle.util.proofs.ViewLaws.{view-length, view-take}
use Rattle.info_block.specs.InfoBlock.{Block, info_block}
use Rattle.info_block.proofs.InfoBlockLaws.{block_even}
use Rattle.info_block.proofs.BytesLaws.{block_bytes_lem}
use Rattle.pattern.specs.Pattern.{Track, Pattern, key_count, key_of, inside, track, pattern}

-- ---- a track that is accepted: its keys stand at its place, all of them in the entry

pub record HeldTrack (textures palettes : ℕ) (s : List ℕ) (t : Track) : Type 0 where
  pub keys : view 4 key_of (key_count t) (drop t.place s) ≡ t.keys
  pub ends : t.place + 4 * key_count t ≤ length s
  pub few : key_count t < 4294967296
  pub inside : inside textures palettes t.keys ≡ true

track_held : (textures palettes : ℕ) (s datum : List ℕ) (m j : ℕ) (t : Track) → Bytes datum → run (track textures palettes datum) s m ≡ accepted j t → HeldTrack textures palettes s t
unfolding run bind track
track_held textures palettes s datum m j t b e =
    let place = word_at 2 datum 6 in
    let count = word_at 4 datum 0 in
    let w = had_part _ _ _ j t e in
    let v = accepted_first (unless _ 8) _ s _ j t w.1 in
    let l = w.0 in
    let few : count < 4294967296 = word_lt 4 datum 0 b in
    let q = view-take 4 key_of count (drop place s) in
    let n : length (view 4 key_of count (drop place s)) ≡ count = view-length 4 key_of count (drop place s) in
    let h = test_held _ 8 s _ _ _ v.2 in
    subst (HeldTrack textures palettes s) (done_is _ s _ j t v.3)
    (rw q
    (record {
      keys = ap (λ (c : ℕ). view 4 key_of c (drop place s)) n;
      ends = rw n l;
      few = rw n few;
      inside = rw q at h;
    }))

-- ---- the entry

-- the steps of its reader that were accepted
record Taken (s : List ℕ) (v : Pattern) : Type 0 where
  block : Block
  tracks : List Track
  start : ℕ
  end : ℕ
  far : ℕ
  textures : word_at 2 s 8 + 16 * word_at 1 s 6 ≤ length s
  palettes : word_at 2 s 10 + 16 * word_at 1 s 7 ≤ length s
  read : run (info_block 12 8) s start ≡ accepted end block
  followed : run (each (track (word_at 1 s 6) (word_at 1 s 7)) block.datums) s end ≡ accepted far tracks
  is : record { frames = word_at 2 s 4; textures = record { place = word_at 2 s 8; count = word_at 1 s 6 }; palettes = record { place = word_at 2 s 10; count = word_at 1 s 7 }; names = block.names; tracks = tracks } ≡ v

taken : (s : List ℕ) (m j : ℕ) (v : Pattern) → run pattern s m ≡ accepted j v → Taken s v
unfolding run bind pattern
taken s m j v e =
    let w = had_part _ _ _ j v e in
    let w = had_part _ _ _ j v w.1 in
    let w = had_part _ _ _ j v w.1 in
    let w = had_part _ _ _ j v w.1 in
    let w = had_part _ _ _ j v w.1 in
    let w = had_part _ _ _ j v w.1 in
    let t = had_part _ _ _ j v w.1 in
    let p = had_part _ _ _ j v t.1 in
    let b = accepted_first (info_block 12 8) _ s _ j v p.1 in
    let a = accepted_first (each (track (word_at 1 s 6) (word_at 1 s 7)) b.1.datums) _ s b.0 j v b.3 in
    record { block = b.1; tracks = a.1; start = _; end = b.0; far = a.0; textures = t.0; palettes = p.0; read = b.2; followed = a.2; is = done_is _ s a.0 j v a.3 }

-- there is a track for each name
pub track_for_name : (s : List ℕ) (m j : ℕ) (v : Pattern) → run pattern s m ≡ accepted j v → length v.tracks ≡ length v.names
track_for_name s m j v e =
    let w = taken s m j v e in
    let c = block_even 12 8 s _ _ _ w.read in
    subst (λ (x : Pattern). length x.tracks ≡ length x.names) w.is ((each_read _ s w.block.datums _ _ _ w.followed).0 ∙ (c.datums ∙ sym c.names))

pub record HeldPattern (s : List ℕ) (v : Pattern) : Type 0 where
  pub frames : v.frames < 65536
  pub textures : v.textures.count < 256
  pub textures_end : v.textures.place + 16 * v.textures.count ≤ length s
  pub palettes : v.palettes.count < 256
  pub palettes_end : v.palettes.place + 16 * v.palettes.count ≤ length s
  pub names : length v.names < 256
  pub sixteen : Each (λ x. length x ≡ 16) v.names
  pub bytes : Each Bytes v.names
  pub tracks : Each (HeldTrack v.textures.count v.palettes.count s) v.tracks

pub pattern_held : (s : List ℕ) (m j : ℕ) (v : Pattern) → Bytes s → run pattern s m ≡ accepted j v → HeldPattern s v
pattern_held s m j v b e =
    let w = taken s m j v e in
    let c = block_even 12 8 s _ _ _ w.read in
    let d = block_bytes_lem 12 8 s b _ _ _ w.read in
    subst (HeldPattern s) w.is
    (record {
      frames = word_lt 2 s 4 b;
      textures = word_lt 1 s 6 b;
      textures_end = w.textures;
      palettes = word_lt 1 s 7 b;
      palettes_end = w.palettes;
      names = rw c.names d.0;
      sixteen = c.sixteen;
      bytes = d.2;
      tracks = each_gives _ s Bytes _ (λ datum m j t. track_held _ _ s datum m j t) w.block.datums _ _ _ d.1 w.followed;
    })
