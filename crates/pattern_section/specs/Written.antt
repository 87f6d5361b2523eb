-- A PAT0 section of one entry, as bytes: its fields in order. What reading passes over is zero. Assumes nothing.
use Rattle.std.specs.Prelude.{ℕ, ◌+◌, ◌*◌, ◌/◌, length, take}
use mathlib.Core.List.{List, [], ◌∷◌, ◌++◌, map, flatten}
use Rattle.util.specs.View.{little_bytes, word_at, view}
use Rattle.util.specs.Sums.{total}
use Rattle.info_block.specs.Name.{Name}
use Rattle.info_block.specs.InfoBlock.{Block, block_bytes}
use Rattle.nitro.specs.Container.{pat, stamp_of}

-- What is lent to be written. Lists are bytes: 16 a name; 20 a track, which are its name and how many keys it has, a word of four bytes; 4 a key
-- as it is stored. The keys stand track by track.
pub record Lent : Type 0 where
  pub name : Name
  pub frames : ℕ
  pub textures : List ℕ
  pub palettes : List ℕ
  pub tracks : List ℕ
  pub keys : List ℕ

-- .. in the order of the call
abbrev pub lent : Name → ℕ → List ℕ → List ℕ → List ℕ → List ℕ → Lent
lent name frames textures palettes tracks keys = record { name = name; frames = frames; textures = textures; palettes = palettes; tracks = tracks; keys = keys }

-- a track that is lent: its name, and how many of the keys are its own
pub record Drawn : Type 0 where
  pub name : Name
  pub count : ℕ

abbrev pub drawn_of : List ℕ → Drawn
drawn_of bs = record { name = take 16 bs; count = word_at 4 bs 16 }

-- n tracks
abbrev pub drawn : ℕ → List ℕ → List Drawn
drawn n bs = view 20 drawn_of n bs

abbrev pub names : List Drawn → List Name
names ts = map (λ (t : Drawn). t.name) ts

-- how many keys they have
abbrev pub key_total : List Drawn → ℕ
key_total ts = total (λ (t : Drawn). t.count) ts

-- how many whole items are lent

abbrev pub texture_count : Lent → ℕ
texture_count l = length l.textures / 16

abbrev pub palette_count : Lent → ℕ
palette_count l = length l.palettes / 16

abbrev pub track_count : Lent → ℕ
track_count l = length l.tracks / 20

abbrev pub tracks_of : Lent → List Drawn
tracks_of l = drawn (track_count l) l.tracks

-- ---- the entry. Where its lists stand, counted from it: one behind the other, also the empty ones.

abbrev pub texture_place : Lent → ℕ
texture_place l = 28 + 28 * track_count l

abbrev pub palette_place : Lent → ℕ
palette_place l = texture_place l + 16 * texture_count l

abbrev pub key_place : Lent → ℕ
key_place l = palette_place l + 16 * palette_count l

abbrev pub entry_length : Lent → ℕ
entry_length l = key_place l + 4 * key_total (tracks_of l)

-- a track's datum: how many keys it has, and that they stand at `place`
abbrev pub datum : ℕ → ℕ → List ℕ
datum count place = flatten (little_bytes 4 count ∷ little_bytes 2 0 ∷ little_bytes 2 place ∷ [])

-- the datums of tracks whose keys stand one behind the other, from `place` on
unfoldable pub datums : ℕ → List Drawn → List (List ℕ)
datums place [] = []
datums place (t ∷ ts) = datum t.count place ∷ datums (place + 4 * t.count) ts

abbrev pub track_block : Lent → Block
track_block l = record { count = track_count l; datums = datums (key_place l) (tracks_of l); names = names (tracks_of l) }

-- the four untested bytes, the frames, how many names of each sort there are, and where they stand
abbrev pub entry_head : ℕ → ℕ → ℕ → ℕ → ℕ → List (List ℕ)
entry_head frames textures palettes texture_place_lem palette_place_lem =
    little_bytes 4 0
    ∷ little_bytes 2 frames
    ∷ little_bytes 1 textures
    ∷ little_bytes 1 palettes
    ∷ little_bytes 2 texture_place_lem
    ∷ little_bytes 2 palette_place_lem
    ∷ []

abbrev pub entry_fields : Lent → List (List ℕ)
entry_fields l =
    entry_head l.frames (texture_count l) (palette_count l) (texture_place l) (palette_place l)
    ++ (block_bytes 8 (track_block l)
    ∷ l.textures
    ∷ l.palettes
    ∷ l.keys
    ∷ [])

unfoldable pub entry_bytes : Lent → List ℕ
entry_bytes l = flatten (entry_fields l)

-- ---- the section: its stamp, how many bytes it has, its info block, and its one entry, which stands at 48

abbrev pub section_length : Lent → ℕ
section_length l = 48 + entry_length l

abbrev pub section_block : Lent → Block
section_block l = record { count = 1; datums = little_bytes 4 48 ∷ []; names = l.name ∷ [] }

abbrev pub section_fields : Lent → List (List ℕ)
section_fields l = stamp_of pat ∷ little_bytes 4 (section_length l) ∷ block_bytes 4 (section_block l) ∷ entry_bytes l ∷ []

unfoldable pub written : Lent → List ℕ
written l = flatten (section_fields l)
