-- What is promised of a section that was written: every call that reads it gives back what was lent. Proved in proofs/RoundTrip.antt.
use Rattle.std.specs.Prelude.{ℕ, suc, ◌+◌, ◌*◌, ◌≤◌, ◌<◌, List, [], ◌∷◌, ◌++◌, ◌≡◌, length, take, drop, get_or}
use Rattle.util.specs.View.{word_at, view}
use Rattle.util.specs.Reader.{accepted, refused, answered, told}
use Rattle.info_block.specs.Name.{Name, earliest}
use Rattle.pattern.specs.Pattern.{key_of}
use Rattle.nitro.specs.Container.{pat}
use Rattle.calls.specs.Calls.{PatternQuery, chosen, keys, of_pattern, pattern_name, texture_names, palette_names, chosen_of, check, find, on, answer}
use Rattle.pattern_section.specs.Written.{Drawn, drawn_of, Lent, texture_count, palette_count, track_count, tracks_of, key_total, texture_place, palette_place, key_place, written}
use Rattle.writing.specs.WritePattern.{write_pattern}

-- what every caller lends: a name of sixteen bytes, frames in a word of two, and tracks that are bytes
pub record Lendable (l : Lent) : Type 0 where
  pub name : length l.name ≡ 16
  pub frames : l.frames < 65536
  pub tracks : (i : ℕ) → get_or l.tracks i 0 < 256

-- track i as it is lent
abbrev pub track_of : Lent → ℕ → Drawn
track_of l i = get_or (tracks_of l) i (drawn_of [])

-- how many keys come before its own
abbrev pub keys_before : Lent → ℕ → ℕ
keys_before l i = key_total (take i (tracks_of l))

-- where its own stand in the section
abbrev pub keys_at : Lent → ℕ → ℕ
keys_at l i = 48 + (key_place l + 4 * keys_before l i)

-- .. and their bytes as they are lent
abbrev pub keys_of : Lent → ℕ → List ℕ
keys_of l i = take (4 * (track_of l i).count) (drop (4 * keys_before l i) l.keys)

-- s is the section of n bytes that was written of l, with any bytes behind it
pub record ReadsBack (l : Lent) (n : ℕ) (s : List ℕ) : Type 0 where
  pub size : length (written l) ≡ n
  pub stated : word_at 4 s 4 ≡ n
  -- its entry is accepted, and reaches as far as was written; it has no other, and is found by its name
  pub checked : answer (check 0) s ≡ accepted n (record { name = l.name; frames = l.frames; count = track_count l; samples = key_total (tracks_of l) })
  pub alone : (i : ℕ) → answer (check (suc i)) s ≡ refused 9
  pub found : (name : Name) → answer (find name) s ≡ accepted 48 (earliest name (l.name ∷ []))
  -- its names: where they stand, how many there are, and their bytes
  pub textures : answer (on pat 0 texture_names) s ≡ accepted n (record { place = 48 + texture_place l; length = texture_count l })
  pub texture_bytes : take (16 * texture_count l) (drop (48 + texture_place l) s) ≡ l.textures
  pub palettes : answer (on pat 0 palette_names) s ≡ accepted n (record { place = 48 + palette_place l; length = palette_count l })
  pub palette_bytes : take (16 * palette_count l) (drop (48 + palette_place l) s) ≡ l.palettes
  -- each track: its name; where its keys stand, how many there are, and their bytes; and so what it chooses
  pub track_name : (i : ℕ) → i < track_count l → answer (on pat 0 (pattern_name i)) s ≡ accepted n (track_of l i).name
  pub track_keys : (i : ℕ) → i < track_count l → answer (on pat 0 (of_pattern i keys)) s ≡ accepted n (record { place = keys_at l i; length = (track_of l i).count })
  pub key_bytes_lem : (i : ℕ) → i < track_count l → take (4 * (track_of l i).count) (drop (keys_at l i) s) ≡ keys_of l i
  pub choice : (i frame : ℕ) → i < track_count l → told (answer (on pat 0 (of_pattern i (chosen frame))) s) ≡ chosen_of (view 4 key_of (track_of l i).count (keys_of l i)) frame
  -- and there are no others
  pub no_name : (i : ℕ) → track_count l ≤ i → answer (on pat 0 (pattern_name i)) s ≡ refused 9
  pub no_track_lem : (i : ℕ) (q : PatternQuery) → track_count l ≤ i → answer (on pat 0 (of_pattern i q)) s ≡ refused 9

-- whatever is lent and accepted, and whatever follows the section
abbrev pub RoundTrip : Type 0
RoundTrip = (l : Lent) → Lendable l → (room n : ℕ) → write_pattern l room ≡ answered n → (t : List ℕ) → ReadsBack l n (written l ++ t)
