-- A PAT0 entry. Positions and offsets count from the entry. Assumes nothing.
use Rattle.std.specs.Prelude.{ℕ, suc, ◌-◌, ◌*◌, Bool, true, ◌&&◌, cond, List, [], ◌∷◌, ltb, length, get_or}
use Rattle.std.proofs.Math.Option.{Option, map}
use Rattle.util.specs.View.{word_at}
use Rattle.util.specs.Reader.{Reader, done, ◌>>=◌, ◌>>◌, bytes, word, list, each, unless}
use Rattle.info_block.specs.Name.{Name, earliest}
use Rattle.info_block.specs.InfoBlock.{info_block}

-- frame u16, texture u8, palette u8: indexes of the texture names and of the palette names
pub record Key : Type 0 where
  pub frame : ℕ
  pub texture : ℕ
  pub palette : ℕ

pub record Track : Type 0 where
  pub place : ℕ
  pub keys : List Key

abbrev pub no_track : Track
no_track = record { place = 0; keys = [] }

-- how many keys it has
abbrev pub key_count : Track → ℕ
key_count t = length t.keys

-- where a list of names stands, and how many it has
pub record Names : Type 0 where
  pub place : ℕ
  pub count : ℕ

pub record Pattern : Type 0 where
  pub frames : ℕ
  pub textures : Names
  pub palettes : Names
  pub names : List Name
  pub tracks : List Track

abbrev pub key_of : List ℕ → Key
key_of bs = record { frame = word_at 2 bs 0; texture = word_at 1 bs 2; palette = word_at 1 bs 3 }

-- whether each key's texture and palette stand in their own lists
unfoldable pub inside : ℕ → ℕ → List Key → Bool
inside textures palettes [] = true
inside textures palettes (k ∷ ks) = (ltb k.texture textures && ltb k.palette palettes) && inside textures palettes ks

-- a track's datum: u32 key count, u16, u16 offset. The keys are read whole, then tested.
unfoldable pub track : ℕ → ℕ → List ℕ → Reader Track
track textures palettes datum = do
  keys ← list (word_at 2 datum 6) 4 key_of (word_at 4 datum 0)
  unless (inside textures palettes keys) 8
  done (record { place = word_at 2 datum 6; keys = keys })

unfoldable pub pattern : Reader Pattern
pattern = do
  bytes 0 4
  frames ← word 4 2
  textures ← word 6 1
  palettes ← word 7 1
  texture_off ← word 8 2
  palette_off ← word 10 2
  bytes texture_off (16 * textures)
  bytes palette_off (16 * palettes)
  block ← info_block 12 8
  tracks ← each (track textures palettes) block.datums
  done
      (record {
        frames = frames;
        textures = record { place = texture_off; count = textures };
        palettes = record { place = palette_off; count = palettes };
        names = block.names;
        tracks = tracks;
      })

-- ---- PatternTrack::sample

-- the index of the first key of a later frame, or how many keys there are if none is later
unfoldable pub first_later : List Key → ℕ → ℕ
first_later [] frame = 0
first_later (k ∷ ks) frame = cond (ltb frame k.frame) 0 (suc (first_later ks frame))

-- The key before that one; key 0 if that one is first (0 - 1 is 0), the last key if none is later. Keys may be unsorted.
unfoldable pub choice : List Key → Key → ℕ → Key
choice keys default frame = get_or keys (first_later keys frame - 1) default

-- ---- a name's keys: those of the earliest track whose name equals it, if there is one

unfoldable pub keys_of : Name → Pattern → Option (List Key)
keys_of name a = map (λ t. (get_or a.tracks t no_track).keys) (earliest name a.names)
