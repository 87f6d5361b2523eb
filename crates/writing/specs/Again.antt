-- What was read, written again: the lists of a PAT0 entry that a section holds whole. Proved in proofs/Again.antt for every list of bytes.
use Rattle.std.specs.Prelude.{ℕ, ◌+◌, ◌*◌, ◌≤◌, ◌<◌, ◌&&◌, ◌≡◌, leb, length, take, drop, get_or}
use mathlib.Core.List.{List, ◌++◌, map, zip_with, flatten}
use Rattle.util.specs.View.{little_bytes}
use Rattle.util.specs.Reader.{accepted, refused, run, answered, given, told}
use Rattle.info_block.specs.Name.{Name}
use Rattle.pattern.specs.Pattern.{Track, no_track, key_count}
use Rattle.nitro.specs.Container.{pat, Entry, entry_of, record_of}
use Rattle.calls.specs.Calls.{chosen, keys, of_pattern, pattern_name, texture_names, palette_names, check, on, answer}
use Rattle.pattern_section.specs.Written.{Lent, tracks_of, key_place, texture_place, palette_place, section_length, written}
use Rattle.writing.specs.WritePattern.{near, write_pattern}
use Rattle.writing.specs.RoundTrip.{keys_at}

-- a track as it is lent: its name, and how many keys it has
abbrev pub track_bytes : Name → Track → List ℕ
track_bytes name t = name ++ little_bytes 4 (key_count t)

module _ (s : List ℕ) (e : Entry pat) where
  -- n bytes of the section, from a place on that counts from the entry
  abbrev pub bytes_at : ℕ → ℕ → List ℕ
  bytes_at place n = take n (drop (e.offset + place) s)

  -- the keys of a track
  abbrev pub key_bytes : Track → List ℕ
  key_bytes t = bytes_at t.place (4 * key_count t)

  -- what the reading calls tell of an entry, lent to be written
  abbrev pub lent_again : Lent
  lent_again =
      record {
        name = e.name;
        frames = e.held.frames;
        textures = bytes_at e.held.textures.place (16 * e.held.textures.count);
        palettes = bytes_at e.held.palettes.place (16 * e.held.palettes.count);
        tracks = flatten (zip_with track_bytes e.held.names e.held.tracks);
        keys = flatten (map key_bytes e.held.tracks);
      }

-- every call on an entry says of that of the section b, which reaches as far as n, what it says of entry i of s, which is e; places apart
pub record Agrees (s : List ℕ) (i : ℕ) (e : Entry pat) (b : List ℕ) (n : ℕ) : Type 0 where
  pub checked : answer (check 0) b ≡ accepted n (record_of pat e)
  pub textures : answer (on pat 0 texture_names) b ≡ accepted n (record { place = 48 + texture_place (lent_again s e); length = e.held.textures.count })
  pub texture_bytes : take (16 * e.held.textures.count) (drop (48 + texture_place (lent_again s e)) b) ≡ bytes_at s e e.held.textures.place (16 * e.held.textures.count)
  pub palettes : answer (on pat 0 palette_names) b ≡ accepted n (record { place = 48 + palette_place (lent_again s e); length = e.held.palettes.count })
  pub palette_bytes : take (16 * e.held.palettes.count) (drop (48 + palette_place (lent_again s e)) b) ≡ bytes_at s e e.held.palettes.place (16 * e.held.palettes.count)
  -- each track's keys
  pub track_keys : (k : ℕ) → k < length e.held.tracks → answer (on pat 0 (of_pattern k keys)) b ≡ accepted n (record { place = keys_at (lent_again s e) k; length = key_count (get_or e.held.tracks k no_track) })
  pub key_bytes_lem : (k : ℕ) → k < length e.held.tracks → take (4 * key_count (get_or e.held.tracks k no_track)) (drop (keys_at (lent_again s e) k) b) ≡ key_bytes s e (get_or e.held.tracks k no_track)
  pub no_keys : (k : ℕ) → length e.held.tracks ≤ k → answer (on pat 0 (of_pattern k keys)) b ≡ refused 9
  -- of every track and at every frame, and past the tracks: the name and the choice, refusals too
  pub track_name : (k : ℕ) → told (answer (on pat 0 (pattern_name k)) b) ≡ told (answer (on pat i (pattern_name k)) s)
  pub choice : (k frame : ℕ) → told (answer (on pat 0 (of_pattern k (chosen frame))) b) ≡ told (answer (on pat i (of_pattern k (chosen frame))) s)

-- entry i of s was read whole: it is e
pub record WrittenAgain (s : List ℕ) (i : ℕ) (e : Entry pat) : Type 0 where
  -- Of the refusals only 16 and 11 can come: 16, since lists that share bytes in s stand one behind the other here.
  pub only : (room : ℕ) → write_pattern (lent_again s e) room ≡ given (near (key_place (lent_again s e)) (tracks_of (lent_again s e)) && leb (section_length (lent_again s e)) 4294967295) 16 (given (leb (section_length (lent_again s e)) room) 11 (answered (section_length (lent_again s e))))
  -- what is not refused reads as before, whatever follows it
  pub agrees : (room n : ℕ) → write_pattern (lent_again s e) room ≡ answered n → (t : List ℕ) → Agrees s i e (written (lent_again s e) ++ t) n

abbrev pub EveryEntryAgain : Type 0
EveryEntryAgain = (s : List ℕ) → ((j : ℕ) → get_or s j 0 < 256) → (i m : ℕ) (e : Entry pat) → run (entry_of pat i) s 0 ≡ accepted m e → WrittenAgain s i e
