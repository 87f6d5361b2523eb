-- What was read, written again: it passes the tests, and what is read back is what was read. Assumes nothing.
use Prim.Native.Nat.{ℕ, zero, suc, ◌+◌, ◌*◌, ◌≤◌, ◌<◌}
use mathlib.Core.Bool.{true, ◌&&◌}
use mathlib.Core.List.{List, [], ◌∷◌, ◌++◌, map, zip_with, flatten}
use mathlib.Core.Logic.{⊎_elim}
use mathlib.Core.Path.{◌≡◌, refl, sym, ap, ◌∙◌}
use native.Mathlib.Nat.{le_of_eq}
use native.Mathlib.Omega.{arith}
use borrow.Author.Tests.{lt-ltb, le-ltb, le-leb, eq-eqb}
use lib.Dec.{ltb, leb, lit<}
use lib.ListN.{length, take, drop, get_or, length-append, length-drop, length-map}
use lib.Seq.{drop-drop, take_at, drop_at, take_all, take-length, length-take-le}
use Rattle.util.specs.View.{little_bytes, view}
use Rattle.util.specs.Reader.{accepted, run, answered, given, told}
use Rattle.util.specs.Sums.{total}
use Rattle.util.proofs.All.{Bytes, bytes_drop, bytes_append, bytes_little, Each, each_at, each_map}
use Rattle.util.proofs.Cut.{le_or_lt}
use Rattle.util.proofs.SumsLaws.{total-take}
use Rattle.util.proofs.ViewLaws.{length-little, little-little, map_at, view-take, view_front, view-add}
use Rattle.info_block.specs.Name.{Name}
use Rattle.pattern.specs.Pattern.{Track, no_track, key_count, key_of, inside, pattern}
use Rattle.pattern.proofs.PatternLaws.{inside_append}
use Rattle.pattern.proofs.HeldLaws.{HeldTrack, HeldPattern, track_for_name, pattern_held}
use Rattle.nitro.specs.Container.{pat, Entry, entry_of}
use Rattle.nitro.proofs.ContainerLaws.{value_read, name_sixteen}
use Rattle.calls.specs.Calls.{chosen, keys, of_pattern, pattern_name, chosen_of, ask_pattern, ask, on, answer}
use Rattle.calls.proofs.CallsLaws.{entry_asked}
use Rattle.pattern_section.specs.Written.{Drawn, drawn_of, drawn, names, Lent, texture_count, palette_count, track_count, tracks_of, key_total, key_place, section_length, written}
use Rattle.writing.specs.WritePattern.{few, whole, chosen_inside, near, write_pattern}
use Rattle.writing.specs.RoundTrip.{Lendable, track_of, keys_before, keys_at, keys_of, ReadsBack}
use Rattle.writing.specs.Again.{track_bytes, bytes_at, key_bytes, lent_again, Agrees, EveryEntryAgain}
use Rattle.writing.proofs.RoundTrip.{round_trip}

-- ---- the tracks as they are lent

abbrev drawn_as : Name → Track → Drawn
drawn_as name t = record { name = name; count = key_count t }

abbrev Fits : Track → Type 0
Fits t = key_count t < 4294967296

abbrev Sixteen : Name → Type 0
Sixteen x = length x ≡ 16

row_length : (name : Name) (t : Track) → Sixteen name → length (track_bytes name t) ≡ 20
row_length name t h = let l = length-little 4 (key_count t) in simp length-append (omega arith)

row_drawn : (name : Name) (t : Track) → Sixteen name → Fits t → drawn_of (track_bytes name t) ≡ drawn_as name t
row_drawn name t h l =
    let c = little_bytes 4 (key_count t) in
    rw (take_at name c 16 h, drop_at name c 16 h, take_all 4 c (le_of_eq (length-little 4 (key_count t))), little-little 4 (key_count t) l) refl

module _ (ns : List Name) (ts : List Track) where
  abbrev rows : List (List ℕ)
  rows = zip_with track_bytes ns ts

  abbrev again : List Drawn
  again = zip_with drawn_as ns ts

rows_length : (ns : List Name) (ts : List Track) → Each Sixteen ns → length (flatten (rows ns ts)) ≡ 20 * length (again ns ts)
unfolding zip_with flatten
rows_length [] ts h = refl
rows_length (n ∷ ns) [] h = refl
rows_length (n ∷ ns) (t ∷ ts) h =
    let a = length-append (track_bytes n t) (flatten (rows ns ts)) in
    let b = row_length n t h.0 in
    let c = rows_length ns ts h.1 in
    omega arith

rows_drawn : (ns : List Name) (ts : List Track) → Each Sixteen ns → Each Fits ts → drawn (length (again ns ts)) (flatten (rows ns ts)) ≡ again ns ts
unfolding zip_with flatten view
rows_drawn [] ts h g = refl
rows_drawn (n ∷ ns) [] h g = refl
rows_drawn (n ∷ ns) (t ∷ ts) h g =
    let b = track_bytes n t in
    let r = flatten (rows ns ts) in
    let x : drawn_of (take 20 (b ++ r)) ≡ drawn_as n t = ap drawn_of (take_at b r 20 (row_length n t h.0)) ∙ row_drawn n t h.0 g.0 in
    let y : drawn (length (again ns ts)) (drop 20 (b ++ r)) ≡ again ns ts = ap (drawn (length (again ns ts))) (drop_at b r 20 (row_length n t h.0)) ∙ rows_drawn ns ts h.1 g.1 in
    cc

rows_bytes : (ns : List Name) (ts : List Track) → Each Bytes ns → Bytes (flatten (rows ns ts))
unfolding zip_with flatten
rows_bytes [] ts h i = lit< tt
rows_bytes (n ∷ ns) [] h i = lit< tt
rows_bytes (n ∷ ns) (t ∷ ts) h i =
    bytes_append (track_bytes n t) (flatten (rows ns ts)) (bytes_append n (little_bytes 4 (key_count t)) h.0 (bytes_little 4 (key_count t))) (rows_bytes ns ts h.1) i

-- where there is a track for each name
again_names : (ns : List Name) (ts : List Track) → length ts ≡ length ns → names (again ns ts) ≡ ns
unfolding zip_with
again_names [] ts e = refl
again_names (n ∷ ns) [] e = absurd (omega arith)
again_names (n ∷ ns) (t ∷ ts) e = ap (λ (l : List Name). n ∷ l) (again_names ns ts (omega arith))

again_counts : (ns : List Name) (ts : List Track) → length ts ≡ length ns → map (λ (d : Drawn). d.count) (again ns ts) ≡ map key_count ts
unfolding zip_with
again_counts [] [] e = refl
again_counts [] (t ∷ ts) e = absurd (omega arith)
again_counts (n ∷ ns) [] e = refl
again_counts (n ∷ ns) (t ∷ ts) e = ap (λ (l : List ℕ). key_count t ∷ l) (again_counts ns ts (omega arith))

-- ---- the keys as they are lent: `bytes` are a track's

module _ (bytes : Track → List ℕ) (textures palettes : ℕ) where
  record Kept (t : Track) : Type 0 where
    size : length (bytes t) ≡ 4 * key_count t
    keys : view 4 key_of (key_count t) (bytes t) ≡ t.keys
    inside : inside textures palettes t.keys ≡ true

  abbrev all : List Track → List ℕ
  all ts = flatten (map bytes ts)

  keys_length : (ts : List Track) → Each Kept ts → length (all ts) ≡ 4 * total key_count ts
  unfolding flatten total
  keys_length [] h = refl
  keys_length (t ∷ ts) h =
      let a = length-append (bytes t) (all ts) in
      let b = h.0.size in
      let c = keys_length ts h.1 in
      omega arith

  keys_inside : (ts : List Track) → Each Kept ts → inside textures palettes (view 4 key_of (total key_count ts) (all ts)) ≡ true
  unfolding flatten total view inside
  keys_inside [] h = refl
  keys_inside (t ∷ ts) h =
      let a : view 4 key_of (key_count t) (bytes t ++ all ts) ≡ t.keys = view_front 4 key_of (key_count t) (bytes t) (all ts) (le_of_eq (sym h.0.size)) ∙ h.0.keys in
      let b : drop (4 * key_count t) (bytes t ++ all ts) ≡ all ts = drop_at (bytes t) (all ts) (4 * key_count t) h.0.size in
      rw (view-add 4 key_of (key_count t) (total key_count ts) (bytes t ++ all ts), a, b, inside_append textures palettes t.keys (view 4 key_of (total key_count ts) (all ts)), h.0.inside, keys_inside ts h.1) refl

  -- those of track k
  keys_at_lem : (ts : List Track) → Each Kept ts → (k : ℕ) → k < length ts → take (4 * key_count (get_or ts k no_track)) (drop (4 * total key_count (take k ts)) (all ts)) ≡ bytes (get_or ts k no_track)
  unfolding flatten total
  keys_at_lem [] h k l = absurd (omega arith)
  keys_at_lem (t ∷ ts) h zero l = take_at (bytes t) (all ts) (4 * key_count t) h.0.size
  keys_at_lem (t ∷ ts) h (suc k) l =
      let n = total key_count (take k ts) in
      let q : 4 * (key_count t + n) ≡ 4 * key_count t + 4 * n = omega arith in
      rw (q, ← drop-drop (4 * n) (4 * key_count t) (bytes t ++ all ts), drop_at (bytes t) (all ts) (4 * key_count t) h.0.size) (keys_at_lem ts h.1 k (omega arith))

-- ---- an entry that was read whole

module _ (s : List ℕ) (bytes : Bytes s) (i m : ℕ) (e : Entry pat) (read : run (entry_of pat i) s 0 ≡ accepted m e) where
  abbrev l : Lent
  l = lent_again s e

  abbrev ns : List Name
  ns = e.held.names

  abbrev ts : List Track
  ts = e.held.tracks

  abbrev ds : List Drawn
  ds = again ns ts

  was_read : (n : ℕ) × (run pattern (drop e.offset s) 0 ≡ accepted n e.held)
  was_read = value_read pat s i m e read

  counted : length ts ≡ length ns
  counted = track_for_name (drop e.offset s) 0 was_read.0 e.held was_read.1

  holds : HeldPattern (drop e.offset s) e.held
  holds = pattern_held (drop e.offset s) 0 was_read.0 e.held (bytes_drop e.offset s bytes) was_read.1

  part_length : (place n : ℕ) → place + n ≤ length (drop e.offset s) → length (bytes_at s e place n) ≡ n
  part_length place n h =
      let d = length-drop e.offset s in
      length-take-le n (drop (e.offset + place) s) (simp length-drop (omega arith))

  abbrev KeptAgain : Track → Type 0
  KeptAgain = Kept (key_bytes s e) e.held.textures.count e.held.palettes.count

  kept : Each KeptAgain ts
  kept =
      each_map (HeldTrack _ _ (drop e.offset s)) KeptAgain
      (λ t h.
      record {
        size = part_length t.place (4 * key_count t) h.ends;
        keys = view-take 4 key_of (key_count t) (drop (e.offset + t.place) s) ∙ ap (view 4 key_of (key_count t)) (sym (drop-drop t.place e.offset s)) ∙ h.keys;
        inside = h.inside;
      })
      ts holds.tracks

  -- how many there are of each, and how long the lists are
  texture_length : length l.textures ≡ 16 * e.held.textures.count
  texture_length = part_length _ _ holds.textures_end

  palette_length : length l.palettes ≡ 16 * e.held.palettes.count
  palette_length = part_length _ _ holds.palettes_end

  drawn_length : length ds ≡ length ts
  drawn_length = sym (length-map ds _) ∙ ap length (again_counts ns ts counted) ∙ length-map ts _

  track_length : length l.tracks ≡ 20 * length ds
  track_length = rows_length ns ts holds.sixteen

  textures_are : texture_count l ≡ e.held.textures.count
  textures_are = let q = texture_length in omega arith

  palettes_are : palette_count l ≡ e.held.palettes.count
  palettes_are = let q = palette_length in omega arith

  drawn_count : track_count l ≡ length ds
  drawn_count = let q = track_length in omega arith

  tracks_count : track_count l ≡ length ts
  tracks_count = drawn_count ∙ drawn_length

  tracks_are : tracks_of l ≡ ds
  tracks_are =
      ap (λ (n : ℕ). drawn n l.tracks) drawn_count
      ∙ rows_drawn ns ts holds.sixteen (each_map (HeldTrack _ _ (drop e.offset s)) Fits (λ t h. h.few) ts holds.tracks)

  -- how many keys the first k tracks have, and all
  before_are : (k : ℕ) → keys_before l k ≡ total key_count (take k ts)
  before_are k = ap (λ (x : List Drawn). key_total (take k x)) tracks_are ∙ total-take (λ (d : Drawn). d.count) k ds ∙ ap (λ (x : List ℕ). total (λ n. n) (take k x)) (again_counts ns ts counted) ∙ sym (total-take key_count k ts)

  keys_are : key_total (tracks_of l) ≡ total key_count ts
  keys_are =
      let q : length (tracks_of l) ≡ length ts = ap length tracks_are ∙ drawn_length in
      ap key_total (sym (take_all (length ts) (tracks_of l) (le_of_eq q))) ∙ before_are (length ts) ∙ ap (total key_count) (take-length ts)

  -- the tests
  few_again : few l ≡ true
  few_again =
      let t = textures_are in
      let p = palettes_are in
      let n = tracks_count in
      let c = counted in
      let h = holds in
      rw (le-leb (texture_count l) 255 (omega arith), le-leb (palette_count l) 255 (omega arith), le-leb (track_count l) 255 (omega arith)) refl

  whole_again : whole l ≡ true
  whole_again =
      let t : length l.textures ≡ 16 * texture_count l = texture_length ∙ ap (λ (n : ℕ). 16 * n) (sym textures_are) in
      let p : length l.palettes ≡ 16 * palette_count l = palette_length ∙ ap (λ (n : ℕ). 16 * n) (sym palettes_are) in
      let n : length l.tracks ≡ 20 * track_count l = track_length ∙ ap (λ (n : ℕ). 20 * n) (sym drawn_count) in
      let k : length l.keys ≡ 4 * key_total (tracks_of l) = keys_length _ _ _ ts kept ∙ ap (λ (n : ℕ). 4 * n) (sym keys_are) in
      rw (eq-eqb _ _ t, eq-eqb _ _ p, eq-eqb _ _ n, eq-eqb _ _ k) refl

  inside_again : chosen_inside l ≡ true
  inside_again = rw (textures_are, palettes_are, keys_are) (keys_inside _ _ _ ts kept)

  only : (room : ℕ) → write_pattern l room ≡ given (near (key_place l) (tracks_of l) && leb (section_length l) 4294967295) 16 (given (leb (section_length l) room) 11 (answered (section_length l)))
  unfolding write_pattern
  only room = rw (few_again, whole_again, inside_again) refl

  lendable : Lendable l
  lendable = record { name = name_sixteen pat s i m e read; frames = holds.frames; tracks = rows_bytes ns ts holds.bytes }

  -- track k as it is lent
  module _ (k : ℕ) (lt : k < length ts) where
    abbrev t : Track
    t = get_or ts k no_track

    there : k < length ds
    there = rw drawn_length lt

    name_is : (track_of l k).name ≡ get_or ns k []
    name_is = ap (λ (x : List Drawn). (get_or x k (drawn_of [])).name) tracks_are ∙ sym (map_at (λ (d : Drawn). d.name) ds k (drawn_of []) [] there) ∙ ap (λ (x : List Name). get_or x k []) (again_names ns ts counted)

    count_is : (track_of l k).count ≡ key_count t
    count_is =
        ap (λ (x : List Drawn). (get_or x k (drawn_of [])).count) tracks_are
        ∙ sym (map_at (λ (d : Drawn). d.count) ds k (drawn_of []) 0 there)
        ∙ ap (λ (x : List ℕ). get_or x k 0) (again_counts ns ts counted)
        ∙ map_at key_count ts k no_track 0 lt

    bytes_are : keys_of l k ≡ key_bytes s e t
    bytes_are = rw (count_is, before_are k) (keys_at_lem _ _ _ ts kept k lt)

    view_is : view 4 key_of (track_of l k).count (keys_of l k) ≡ t.keys
    view_is = rw (bytes_are, count_is) (each_at KeptAgain ts no_track kept k lt).keys

  module _ (room n : ℕ) (q : write_pattern l room ≡ answered n) (t : List ℕ) where
    abbrev b : List ℕ
    b = written l ++ t

    abbrev back : ReadsBack l n b
    back = round_trip l lendable room n q t

    name_again : (k : ℕ) → told (answer (on pat 0 (pattern_name k)) b) ≡ told (answer (on pat i (pattern_name k)) s)
    name_again k =
        ⊎_elim
        (λ (h : length ts ≤ k). ap told (back.no_name k (rw tracks_count h)) ∙ sym (here ∙ rw (le-ltb k (length ns) (rw counted at h)) refl))
        (λ (h : k < length ts). ap told (back.track_name k (rw tracks_count h)) ∙ sym (here ∙ rw (lt-ltb k (length ns) (rw counted at h), name_is k h) refl))
        (le_or_lt (length ts) k)
      where
        here : told (answer (on pat i (pattern_name k)) s) ≡ given (ltb k (length ns)) 9 (answered (get_or ns k []))
        here = unfold ask in entry_asked pat s i (pattern_name k) m e read

    choice_again : (k frame : ℕ) → told (answer (on pat 0 (of_pattern k (chosen frame))) b) ≡ told (answer (on pat i (of_pattern k (chosen frame))) s)
    choice_again k frame =
        ⊎_elim
        (λ (h : length ts ≤ k). ap told (back.no_track_lem k (chosen frame) (rw tracks_count h)) ∙ sym (here ∙ rw (le-ltb k (length ts) h) refl))
        (λ (h : k < length ts). back.choice k frame (rw tracks_count h) ∙ sym (here ∙ rw (lt-ltb k (length ts) h, view_is k h) refl))
        (le_or_lt (length ts) k)
      where
        here : told (answer (on pat i (of_pattern k (chosen frame))) s) ≡ given (ltb k (length ts)) 9 (chosen_of (get_or ts k no_track).keys frame)
        here = unfold ask ask_pattern in entry_asked pat s i (of_pattern k (chosen frame)) m e read

    agrees : Agrees s i e b n
    agrees =
        record {
          checked = rw (keys_are, tracks_count) at back.checked;
          textures = rw textures_are at back.textures;
          texture_bytes = rw textures_are at back.texture_bytes;
          palettes = rw palettes_are at back.palettes;
          palette_bytes = rw palettes_are at back.palette_bytes;
          track_keys = λ k h. rw (count_is k h) at (back.track_keys k (rw tracks_count h));
          key_bytes_lem = λ k h. ap (λ (c : ℕ). take (4 * c) (drop (keys_at l k) b)) (sym (count_is k h)) ∙ back.key_bytes_lem k (rw tracks_count h) ∙ bytes_are k h;
          no_keys = λ k h. back.no_track_lem k keys (rw tracks_count h);
          track_name = name_again;
          choice = choice_again;
        }

pub every_entry_again : EveryEntryAgain
every_entry_again s bytes i m e read = record { only = only s bytes i m e read; agrees = agrees s bytes i m e read }
