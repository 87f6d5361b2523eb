-- Every section that was written is read back. Assumes nothing.
use Prim.Native.Nat.{ℕ, zero, suc, ◌+◌, ◌*◌, ◌≤◌, ◌<◌}
use mathlib.Core.Bool.{true, and-eq-true_iff}
use mathlib.Core.List.{List, [], ◌++◌}
use mathlib.Core.Path.{◌≡◌, refl, sym, ap, ◌∙◌}
use native.Mathlib.Omega.{arith}
use borrow.Author.Tests.{ltb-true, lt-ltb, le-ltb}
use lib.Dec.{ltb}
use lib.ListN.{length, take, drop, get_or, length-map}
use Rattle.util.specs.View.{word_at, view, same}
use Rattle.util.specs.Reader.{accepted, refused, run, bind, unless, tell, told}
use Rattle.util.proofs.All.{Bytes, word_lt, bytes_take, bytes_drop}
use Rattle.util.proofs.Cut.{to}
use Rattle.util.proofs.Fields.{Stands, stands_all}
use Rattle.util.proofs.ReadsLaws.{goes_on, stops}
use Rattle.util.proofs.ViewLaws.{view-length, view-take, map_at}
use Rattle.info_block.specs.Name.{Name}
use Rattle.pattern.specs.Pattern.{Key, no_track, key_of}
use Rattle.nitro.specs.Container.{pat, all_kinds, kind_of, stamped, section, entry_in, entry, entry_of}
use Rattle.calls.specs.Calls.{PatternQuery, chosen, keys, Query, of_pattern, pattern_name, texture_names, palette_names, chosen_of, ask_pattern, ask, check, on, answer}
use Rattle.calls.proofs.CallsLaws.{check_stamped, entry_tells, entry_asked, find_earliest}
use Rattle.pattern_section.specs.Written.{Drawn, drawn_of, drawn, names, Lent, track_count, tracks_of, key_total, key_place, section_block, written}
use Rattle.pattern_section.proofs.SizedLaws.{written_length}
use Rattle.pattern_section.proofs.TracksBack.{Room, tracks, tracks_length, tracks_keys, track_at_lem, keys_before_lem}
use Rattle.pattern_section.proofs.EntryBack.{held, Readable}
use Rattle.pattern_section.proofs.SectionBack.{entry_held, headed, header_back, entry_found, stamp_back, textures_back, palettes_back, keys_back, section_back}
use Rattle.writing.specs.WritePattern.{near}
use Rattle.writing.specs.RoundTrip.{Lendable, track_of, keys_before, keys_at, keys_of, ReadsBack, RoundTrip}
use Rattle.writing.proofs.CheckLaws.{Passed, accepted_passed}

-- tracks that pass the test, from bytes
room : (n : ℕ) (bs : List ℕ) (place : ℕ) → Bytes bs → near place (drawn n bs) ≡ true → Room place (drawn n bs)
unfolding view Room near
room zero bs place b e = tt
room (suc n) bs place b e =
    let count = word_at 4 (take 20 bs) 16 in
    let w = (and-eq-true_iff (ltb place 65536) (near (place + 4 * count) (drawn n (drop 20 bs)))).0 e in
    (word_lt 4 (take 20 bs) 16 (bytes_take 20 bs b), ltb-true place 65536 w.0, room n (drop 20 bs) (place + 4 * count) (bytes_drop 20 bs b) w.1)

readable : (l : Lent) → Lendable l → (room n : ℕ) → Passed l room n → Readable l
readable l h r n p = record { sized = p.sized; frames = h.frames; inside = p.inside; room = room (track_count l) l.tracks (key_place l) h.tracks p.near }

module _ (l : Lent) (h : Lendable l) (room_given n : ℕ) (p : Passed l room_given n) (t : List ℕ) where
  abbrev s : List ℕ
  s = written l ++ t

  abbrev able : Readable l
  able = readable l h room_given n p

  abbrev stands : Stands s 0 (written l)
  stands = stands_all (written l) t

  size : length (written l) ≡ n
  size = written_length l p.sized h.name ∙ sym p.size

  -- the entry, as every call reads it
  pub read_back : run (entry_of pat 0) s 0 ≡ accepted n (entry_held l)
  read_back = section_back l able h.name p.small t ∙ to _ _ _ size

  stamped_back : run (stamped all_kinds) s 0 ≡ accepted 4 pat
  unfolding kind_of same
  stamped_back = stamp_back l able h.name p.small s stands all_kinds refl

  tells : (q : Query pat) → answer (on pat 0 q) s ≡ run (tell (ask q (entry_held l))) s n
  tells q = entry_tells pat s 0 q n (entry_held l) read_back

  track_count_lem : length (tracks_of l) ≡ track_count l
  track_count_lem = view-length 20 drawn_of (track_count l) l.tracks

  name_count : length (names (tracks_of l)) ≡ track_count l
  name_count = length-map (tracks_of l) _ ∙ track_count_lem

  back_count : length (tracks (key_place l) (tracks_of l) l.keys) ≡ track_count l
  back_count = tracks_length (key_place l) (tracks_of l) l.keys ∙ track_count_lem

  checked : answer (check 0) s ≡ accepted n (record { name = l.name; frames = l.frames; count = track_count l; samples = key_total (tracks_of l) })
  unfolding run entry_held held
  checked =
      check_stamped s 0 pat stamped_back
      ∙ goes_on (entry pat 0) _ s 4 _ _ (entry_found l able h.name p.small s stands)
      ∙ rw (back_count, tracks_keys (key_place l) (tracks_of l) l.keys) (to _ _ _ size)

  alone : (i : ℕ) → answer (check (suc i)) s ≡ refused 9
  unfolding run entry entry_in unless bind
  alone i =
      check_stamped s (suc i) pat stamped_back
      ∙ stops (entry pat (suc i)) _ s 4 9 (goes_on section (entry_in pat (suc i)) s 4 _ _ (header_back l able h.name p.small s stands) ∙ rw (le-ltb (suc i) 1 (omega arith)) refl)

  -- item i of the tracks, and none past them
  module _ (i : ℕ) (lt : i < track_count l) where
    there : i < length (tracks_of l)
    there = rw track_count_lem lt

    track_name : answer (on pat 0 (pattern_name i)) s ≡ accepted n (track_of l i).name
    unfolding run ask entry_held held
    track_name =
        tells (pattern_name i)
        ∙ rw (lt-ltb i (length (names (tracks_of l))) (rw name_count lt)) (ap (λ (x : Name). accepted n x) (map_at (λ (d : Drawn). d.name) (tracks_of l) i (drawn_of []) [] there))

    is_track : get_or (tracks (key_place l) (tracks_of l) l.keys) i no_track ≡ record { place = key_place l + 4 * keys_before l i; keys = view 4 key_of (track_of l i).count (drop (4 * keys_before l i) l.keys) }
    is_track = track_at_lem (key_place l) (tracks_of l) l.keys i (drawn_of []) no_track there

    in_range : ltb i (length (tracks (key_place l) (tracks_of l) l.keys)) ≡ true
    in_range = lt-ltb i _ (rw back_count lt)

    track_keys : answer (on pat 0 (of_pattern i keys)) s ≡ accepted n (record { place = keys_at l i; length = (track_of l i).count })
    unfolding run ask ask_pattern entry_held held
    track_keys =
        tells (of_pattern i keys)
        ∙ rw (in_range, is_track, view-length 4 key_of (track_of l i).count (drop (4 * keys_before l i) l.keys)) refl

    key_bytes_lem : take (4 * (track_of l i).count) (drop (keys_at l i) s) ≡ keys_of l i
    key_bytes_lem =
        let k = p.sized.key_bytes_lem in
        let w = keys_before_lem (tracks_of l) i (drawn_of []) there in
        keys_back l able h.name p.small s stands (4 * keys_before l i) (4 * (track_of l i).count) (omega arith)

    choice : (frame : ℕ) → told (answer (on pat 0 (of_pattern i (chosen frame))) s) ≡ chosen_of (view 4 key_of (track_of l i).count (keys_of l i)) frame
    unfolding ask ask_pattern entry_held held
    choice frame =
        entry_asked pat s 0 (of_pattern i (chosen frame)) n (entry_held l) read_back
        ∙ rw (in_range, is_track) (ap (λ (ks : List Key). chosen_of ks frame) (sym (view-take 4 key_of (track_of l i).count (drop (4 * keys_before l i) l.keys))))

  module _ (i : ℕ) (ge : track_count l ≤ i) where
    no_name : answer (on pat 0 (pattern_name i)) s ≡ refused 9
    unfolding run ask entry_held held
    no_name = tells (pattern_name i) ∙ rw (le-ltb i (length (names (tracks_of l))) (rw name_count ge)) refl

    no_track_lem : (q : PatternQuery) → answer (on pat 0 (of_pattern i q)) s ≡ refused 9
    unfolding run ask entry_held held
    no_track_lem q = tells (of_pattern i q) ∙ rw (le-ltb i (length (tracks (key_place l) (tracks_of l) l.keys)) (rw back_count ge)) refl

  reads_back : ReadsBack l n s
  unfolding run ask entry_held held
  reads_back =
      record {
        size = size;
        stated = (headed l able h.name p.small s stands).size ∙ size;
        checked = checked;
        alone = alone;
        found = λ name. find_earliest s name pat stamped_back 48 (section_block l) (header_back l able h.name p.small s stands);
        textures = tells texture_names;
        texture_bytes = textures_back l able h.name p.small s stands;
        palettes = tells palette_names;
        palette_bytes = palettes_back l able h.name p.small s stands;
        track_name = track_name;
        track_keys = track_keys;
        key_bytes_lem = key_bytes_lem;
        choice = λ i frame lt. choice i lt frame;
        no_name = no_name;
        no_track_lem = λ i q ge. no_track_lem i ge q;
      }

pub round_trip : RoundTrip
round_trip l h room n e t = reads_back l h room n (accepted_passed l room n e) t
