-- What the call that writes a section answers: how many bytes the section has, or the number of a refusal. Assumes nothing.
use Rattle.std.specs.Prelude.{ℕ, ◌+◌, ◌*◌, Bool, true, ◌&&◌, List, [], ◌∷◌, ◌++◌, leb, ltb, eqb, length, drop}
use Rattle.util.specs.View.{view}
use Rattle.util.specs.Reader.{Verdict, answered, denied, given}
use Rattle.pattern.specs.Pattern.{key_of, inside}
use Rattle.pattern_section.specs.Written.{Drawn, Lent, texture_count, palette_count, track_count, tracks_of, key_total, key_place, section_length, written}

-- at most 255 whole names of each sort, and whole tracks
abbrev pub few : Lent → Bool
few l = leb (texture_count l) 255 && (leb (palette_count l) 255 && leb (track_count l) 255)

-- no bytes left over, and counts that add up to the keys
abbrev pub whole : Lent → Bool
whole l =
    eqb (length l.textures) (16 * texture_count l)
    && (eqb (length l.palettes) (16 * palette_count l)
    && (eqb (length l.tracks) (20 * track_count l)
    && eqb (length l.keys) (4 * key_total (tracks_of l))))

-- whether every key's texture and palette are below their counts
abbrev pub chosen_inside : Lent → Bool
chosen_inside l = inside (texture_count l) (palette_count l) (view 4 key_of (key_total (tracks_of l)) l.keys)

-- Whether the keys of tracks, one track behind the other from `place` on, stand where a word of two bytes can point: also an empty track's.
-- The names, of which there are few, always do.
unfoldable pub near : ℕ → List Drawn → Bool
near place [] = true
near place (t ∷ ts) = ltb place 65536 && near (place + 4 * t.count) ts

-- the tests in order; `room` is the length of the slice that is lent
unfoldable pub write_pattern : Lent → ℕ → Verdict ℕ
write_pattern l room =
    given (few l) 15
    (given (whole l) 9
    (given (chosen_inside l) 8
    (given (near (key_place l) (tracks_of l) && leb (section_length l) 4294967295) 16
    (given (leb (section_length l) room) 11
    (answered (section_length l))))))

-- the slice after the call: the section from its start on, and behind it what was there; all as it was where the call refuses
abbrev pub slice_after : Lent → List ℕ → Verdict ℕ → List ℕ
slice_after l before (answered n) = written l ++ drop n before
slice_after l before (denied n) = before
