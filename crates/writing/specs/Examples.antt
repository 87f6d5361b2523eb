-- A section worked out by hand, and lists that are refused. Assumes nothing.
use Rattle.std.specs.Prelude.{ℕ, true, false, ◌≡◌, refl, replicate}
use mathlib.Core.List.{List, [], ◌∷◌, ◌++◌, flatten}
use Rattle.util.specs.View.{little, little_bytes, view}
use Rattle.util.specs.Reader.{accepted, answered, denied}
use Rattle.util.specs.Sums.{total}
use Rattle.info_block.specs.InfoBlock.{block_bytes}
use Rattle.pattern.specs.Pattern.{inside}
use Rattle.nitro.specs.Container.{pat}
use Rattle.calls.specs.Calls.{keys, of_pattern, check, on, answer}
use Rattle.calls.specs.Evaluate.{evaluate}
use Rattle.pattern_section.specs.Written.{Drawn, Lent, datums, entry_bytes, written}
use Rattle.writing.specs.WritePattern.{near, write_pattern, slice_after}

abbrev zeros : ℕ → List ℕ
zeros n = replicate n 0

abbrev sixteen : ℕ → List ℕ
sixteen b = replicate 16 b

-- ---- one texture name, one palette name, two tracks: the first of one key, at frame 7, and the second of none

abbrev flip : Lent
flip =
    record {
      name = sixteen 65;
      frames = 12;
      textures = sixteen 66;
      palettes = sixteen 67;
      tracks = sixteen 68 ++ (1 ∷ 0 ∷ 0 ∷ 0 ∷ []) ++ sixteen 69 ++ (0 ∷ 0 ∷ 0 ∷ 0 ∷ []);
      keys = 7 ∷ 0 ∷ 0 ∷ 0 ∷ [];
    }

-- the section: its size is 168, its entry stands at 48
abbrev header : List ℕ
header = (0x50 ∷ 0x41 ∷ 0x54 ∷ 0x30 ∷ []) ++ (168 ∷ 0 ∷ 0 ∷ 0 ∷ []) ++ (0 ∷ 1 ∷ []) ++ zeros 10 ++ zeros 4 ++ (4 ∷ 0 ∷ 0 ∷ 0 ∷ []) ++ (48 ∷ 0 ∷ 0 ∷ 0 ∷ []) ++ sixteen 65

-- the entry: textures at 84, palettes at 100, the first track's keys at 116 and the second's, which has none, at 120
abbrev entry : List ℕ
entry =
    zeros 4 ++ (12 ∷ 0 ∷ []) ++ (1 ∷ 1 ∷ []) ++ (84 ∷ 0 ∷ []) ++ (100 ∷ 0 ∷ [])
    ++ (0 ∷ 2 ∷ []) ++ zeros 10 ++ zeros 8 ++ (8 ∷ 0 ∷ 0 ∷ 0 ∷ [])
    ++ (1 ∷ 0 ∷ 0 ∷ 0 ∷ 0 ∷ 0 ∷ 116 ∷ 0 ∷ []) ++ (0 ∷ 0 ∷ 0 ∷ 0 ∷ 0 ∷ 0 ∷ 120 ∷ 0 ∷ [])
    ++ sixteen 68 ++ sixteen 69 ++ sixteen 66 ++ sixteen 67 ++ (7 ∷ 0 ∷ 0 ∷ 0 ∷ [])

pub by_hand : written flip ≡ header ++ entry
unfolding written entry_bytes block_bytes datums flatten little_bytes little view total
by_hand = refl

-- a slice of 170 bytes keeps its last two
pub into_170 : slice_after flip (replicate 170 9) (write_pattern flip 170) ≡ header ++ entry ++ (9 ∷ 9 ∷ [])
unfolding write_pattern near inside written entry_bytes block_bytes datums flatten little_bytes little view total
into_170 = refl

pub in_one_byte_less : (write_pattern flip 168 ≡ answered 168) × (write_pattern flip 167 ≡ denied 11)
unfolding write_pattern near inside little view total
in_one_byte_less = (refl, refl)

-- read back, with other bytes behind it
pub read_back :
    (answer (check 0) (header ++ entry ++ (9 ∷ 9 ∷ [])) ≡ accepted 168 (record { name = sixteen 65; frames = 12; count = 2; samples = 1 }))
    × (answer (on pat 0 (of_pattern 0 keys)) (header ++ entry ++ (9 ∷ 9 ∷ [])) ≡ accepted 168 (record { place = 164; length = 1 }))
    × (answer (on pat 0 (of_pattern 1 keys)) (header ++ entry ++ (9 ∷ 9 ∷ [])) ≡ accepted 168 (record { place = 168; length = 0 }))
unfolding evaluate
read_back = (refl, refl, refl)

-- ---- refused

-- names alone
abbrev named : List ℕ → List ℕ → Lent
named textures palettes = record { name = sixteen 0; frames = 0; textures = textures; palettes = palettes; tracks = []; keys = [] }

-- 256 names and 15 bytes are too many; 255 names and 15 bytes are bytes left over; 255 names of both sorts are written
pub too_many : (write_pattern (named (zeros 4111) []) 0 ≡ denied 15) × (write_pattern (named [] (zeros 4095)) 0 ≡ denied 9) × (write_pattern (named (zeros 4080) (zeros 4080)) 8236 ≡ answered 8236)
unfolding write_pattern near inside little view total
too_many = (refl, refl, refl)

-- tracks of so many keys each, and keys
abbrev counting : List ℕ → List ℕ → Lent
counting tracks stored = record { name = sixteen 0; frames = 0; textures = sixteen 0; palettes = zeros 32; tracks = tracks; keys = stored }

abbrev of_keys : ℕ → List ℕ
of_keys n = sixteen 0 ++ little_bytes 4 n

-- a key too many and one too few; four tracks of 2 ^ 30 keys add up to 2 ^ 32 and not to none
pub not_added_up :
    (write_pattern (counting (of_keys 1) (zeros 8)) 999 ≡ denied 9)
    × (write_pattern (counting (of_keys 1 ++ of_keys 1) (zeros 4)) 999 ≡ denied 9)
    × (write_pattern (counting (of_keys 1073741824 ++ of_keys 1073741824 ++ of_keys 1073741824 ++ of_keys 1073741824) []) 999 ≡ denied 9)
unfolding write_pattern near inside little little_bytes view total
not_added_up = (refl, refl, refl)

-- palette 1 of two, palette 2 of two, and texture 1 of one
pub outside :
    (write_pattern (counting (of_keys 1) (0 ∷ 0 ∷ 0 ∷ 1 ∷ [])) 999 ≡ answered 156)
    × (write_pattern (counting (of_keys 1) (0 ∷ 0 ∷ 0 ∷ 2 ∷ [])) 999 ≡ denied 8)
    × (write_pattern (counting (of_keys 1) (0 ∷ 0 ∷ 1 ∷ 0 ∷ [])) 999 ≡ denied 8)
unfolding write_pattern near inside little little_bytes view total
outside = (refl, refl, refl)

-- the keys of a track at 65,532 may be its last; those of one behind it, though it has none, would stand at 65,536
abbrev empty : Drawn
empty = record { name = []; count = 0 }

abbrev single : Drawn
single = record { name = []; count = 1 }

pub far : (near 65532 (single ∷ []) ≡ true) × (near 65532 (single ∷ empty ∷ []) ≡ false) × (near 65528 (single ∷ empty ∷ []) ≡ true)
unfolding near
far = (refl, refl, refl)
