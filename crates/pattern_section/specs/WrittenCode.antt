-- What the code needs of lists to write them. Assumes nothing.
use Rattle.std.specs.Prelude.{◌*◌, ◌<◌, ◌≡◌, length}
use Rattle.pattern_section.specs.Written.{Lent, texture_count, palette_count, track_count, tracks_of, key_total, key_place}

-- few items, none cut off, as many keys as the tracks have, and the first of them stand where a word of two bytes can point
pub record Sized (l : Lent) : Type 0 where
  pub textures : texture_count l < 256
  pub palettes : palette_count l < 256
  pub tracks : track_count l < 256
  pub texture_bytes : length l.textures ≡ 16 * texture_count l
  pub palette_bytes : length l.palettes ≡ 16 * palette_count l
  pub track_bytes_lem : length l.tracks ≡ 20 * track_count l
  pub key_bytes_lem : length l.keys ≡ 4 * key_total (tracks_of l)
  pub key_place_lem : key_place l < 65536
