-- An entry that was written is read back. Assumes nothing.
use Prim.Native.Nat.{ℕ, ◌+◌, ◌*◌, max, ◌<◌}
use mathlib.Core.Bool.{true}
use mathlib.Core.List.{List}
use mathlib.Core.Path.{◌≡◌, refl, sym, ap, ◌∙◌}
use native.Mathlib.Omega.{arith}
use lib.Dec.{lit<}
use Rattle.util.specs.View.{little_bytes, word_at, view}
use Rattle.util.specs.Reader.{accepted, run}
use Rattle.util.proofs.Fields.{Stands, Row, row, stands_at, stands_word}
use Rattle.util.proofs.ReadsLaws.{goes_on}
use Rattle.info_block.specs.InfoBlock.{block_bytes}
use Rattle.info_block.proofs.WrittenLaws.{block_length, block_back}
use Rattle.pattern.specs.declared.ItemList.{ItemList}
use Rattle.pattern.specs.Pattern.{Pattern, key_of, inside, pattern}
use Rattle.pattern.specs.PatternCode.{ListedAt}
use Rattle.pattern.proofs.PatternLaws.{after_block, names_had}
use Rattle.pattern_section.specs.Written.{Lent, names, key_total, texture_count, palette_count, track_count, tracks_of, texture_place, palette_place, key_place, entry_length, track_block, entry_fields, entry_bytes}
use Rattle.pattern_section.specs.WrittenCode.{Sized}
use Rattle.pattern_section.proofs.SizedLaws.{even}
use Rattle.pattern_section.proofs.TracksBack.{Room, tracks, tracks_back}

-- what is read of it
unfoldable pub held : Lent → Pattern
held l =
    record {
      frames = l.frames;
      textures = record { place = texture_place l; count = texture_count l };
      palettes = record { place = palette_place l; count = palette_count l };
      names = names (tracks_of l);
      tracks = tracks (key_place l) (tracks_of l) l.keys;
    }

-- lists that can be read back once they are written
pub record Readable (l : Lent) : Type 0 where
  pub sized : Sized l
  pub frames : l.frames < 65536
  pub inside : inside (texture_count l) (palette_count l) (view 4 key_of (key_total (tracks_of l)) l.keys) ≡ true
  pub room : Room (key_place l) (tracks_of l)

module _ (s : List ℕ) (l : Lent) (w : Stands s 0 (entry_bytes l)) (r : Readable l) where
  -- the fields, each where the reader looks for it
  pub record Laid : Type 0 where
    pub frames : word_at 2 s 4 ≡ l.frames
    pub textures : word_at 1 s 6 ≡ texture_count l
    pub palettes : word_at 1 s 7 ≡ palette_count l
    pub texture_place_lem : word_at 2 s 8 ≡ texture_place l
    pub palette_place_lem : word_at 2 s 10 ≡ palette_place l
    pub block : Stands s 12 (block_bytes 8 (track_block l))
    pub texture_names_lem : Stands s (texture_place l) l.textures
    pub palette_names_lem : Stands s (palette_place l) l.palettes
    pub keys : Stands s (key_place l) l.keys

  pub laid : Laid
  unfolding entry_bytes Row little_bytes
  laid =
      let f : Row s 0 (entry_fields l) = row s 0 (entry_fields l) w in
      let k = r.sized in
      let b = block_length 8 (track_block l) (even l k) in
      let t = k.texture_bytes in
      let p = k.palette_bytes in
      let near = k.key_place_lem in
      record {
        frames = stands_word s 4 2 l.frames f.1.0 r.frames;
        textures = stands_word s 6 1 (texture_count l) f.1.1.0 k.textures;
        palettes = stands_word s 7 1 (palette_count l) f.1.1.1.0 k.palettes;
        texture_place_lem = stands_word s 8 2 (texture_place l) f.1.1.1.1.0 (omega arith);
        palette_place_lem = stands_word s 10 2 (palette_place l) f.1.1.1.1.1.0 (omega arith);
        block = f.1.1.1.1.1.1.0;
        texture_names_lem = stands_at s l.textures _ (texture_place l) (omega arith) f.1.1.1.1.1.1.1.0;
        palette_names_lem = stands_at s l.palettes _ (palette_place l) (omega arith) f.1.1.1.1.1.1.1.1.0;
        keys = stands_at s l.keys _ (key_place l) (omega arith) f.1.1.1.1.1.1.1.1.1.0;
      }

  -- the entry is accepted, it reaches as far as it was written, and it holds what was written
  pub entry_back : run pattern s 0 ≡ accepted (entry_length l) (held l)
  unfolding run held
  entry_back =
      let f = laid in
      let k = r.sized in
      let t : ItemList = record { place = texture_place l; count = texture_count l } in
      let p : ItemList = record { place = palette_place l; count = palette_count l } in
      let near = k.key_place_lem in
      let et : ListedAt s 8 1 6 t = record { place = sym f.texture_place_lem; count = sym f.textures; near = omega arith; few = k.textures } in
      let ep : ListedAt s 10 1 7 p = record { place = sym f.palette_place_lem; count = sym f.palettes; near = omega arith; few = k.palettes } in
      let a = f.texture_names_lem.inside in
      let b = f.palette_names_lem.inside in
      let lt = k.texture_bytes in
      let lp = k.palette_bytes in
      names_had s t p et ep (omega arith) (omega arith) (omega arith)
      ∙ goes_on _ _ _ _ _ _ (block_back 8 (track_block l) (even l k) s 12 f.block k.tracks (lit< tt) _)
      ∙ ap (run (after_block s t p et ep (track_block l)) s) (start (track_count l) (texture_count l) (palette_count l))
      ∙ goes_on _ _ _ _ _ _ (tracks_back (texture_count l) (palette_count l) s (key_place l) (tracks_of l) l.keys f.keys k.key_bytes_lem r.room r.inside)
      ∙ rw f.frames refl
    where
      start : (c t p : ℕ) → max (max (max 12 (28 + 28 * c + 16 * t)) (28 + 28 * c + 16 * t + 16 * p)) (12 + 12 + 4 * c + 4 + 8 * c + 16 * c) ≡ 28 + 28 * c + 16 * t + 16 * p
      start c t p = omega arith
