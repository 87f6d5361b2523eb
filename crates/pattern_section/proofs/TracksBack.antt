-- Tracks that were written are read back: their datums, and their keys one track behind the other. Assumes nothing.
use Prim.Native.Nat.{ℕ, zero, suc, ◌+◌, ◌*◌, ◌≤◌, ◌<◌}
use mathlib.Core.Bool.{true, and-eq-true_iff}
use mathlib.Core.List.{List, [], ◌∷◌, ◌++◌, flatten}
use mathlib.Core.Path.{◌≡◌, refl, sym, ap, subst, ◌∙◌}
use native.Mathlib.Nat.{add-zero}
use native.Mathlib.Omega.{arith}
use lib.ListN.{length, take, drop, get_or, length-drop, take-append-drop}
use lib.Seq.{drop-drop, length-take-le}
use Rattle.util.specs.View.{little_bytes, word_at, view}
use Rattle.util.specs.Reader.{accepted, run, bind, each, unless}
use Rattle.util.specs.Sums.{total}
use Rattle.util.proofs.Cut.{had, to}
use Rattle.util.proofs.Calls.{after, run_bind_as}
use Rattle.util.proofs.ViewLaws.{little-little, view-length, view-take, view_front, view-add}
use Rattle.util.proofs.Fields.{Stands, stands_at, stands_second}
use Rattle.pattern.specs.Pattern.{Track, key_count, key_of, inside, track}
use Rattle.pattern.proofs.PatternLaws.{inside_append}
use Rattle.pattern_section.specs.Written.{Drawn, key_total, datum, datums}

-- counts and places fit their words
unfoldable pub Room : ℕ → List Drawn → Type 0
Room place [] = Unit {0}
Room place (t ∷ ts) = (t.count < 4294967296) × (place < 65536) × Room (place + 4 * t.count) ts

-- the tracks whose keys stand one behind the other, from `place` on: ks holds them
unfoldable pub tracks : ℕ → List Drawn → List ℕ → List Track
tracks place [] ks = []
tracks place (t ∷ ts) ks = record { place = place; keys = view 4 key_of t.count ks } ∷ tracks (place + 4 * t.count) ts (drop (4 * t.count) ks)

module _ (textures palettes : ℕ) where
  -- the words of a datum
  place_of : (c place : ℕ) → place < 65536 → word_at 2 (datum c place) 6 ≡ place
  unfolding little_bytes flatten
  place_of c place h = little-little 2 place h

  count_of : (c place : ℕ) → c < 4294967296 → word_at 4 (datum c place) 0 ≡ c
  unfolding little_bytes flatten
  count_of c place h = little-little 4 c h

  module _ (s : List ℕ) where
    -- one track, after parts that reach as far as its keys
    track_back : (place c : ℕ) (ks : List ℕ) → place < 65536 → c < 4294967296 → Stands s place ks → 4 * c ≤ length ks → inside textures palettes (view 4 key_of c ks) ≡ true
        → run (track textures palettes (datum c place)) s place ≡ accepted (place + 4 * c) (record { place = place; keys = view 4 key_of c ks })
    unfolding run bind track unless
    track_back place c ks near few w l h =
        let i = w.inside in
        let k : view 4 key_of c (take (4 * c) (drop place s)) ≡ view 4 key_of c ks = view-take 4 key_of c (drop place s) ∙ ap (view 4 key_of c) w.here ∙ view_front 4 key_of c ks w.tail l in
        rw (place_of c place near, count_of c place few, k, h) (had _ _ _ _ (omega arith) (to _ _ _ (omega arith)))

    -- all tracks: each begins where the one before it ended
    pub tracks_back : (place : ℕ) (ts : List Drawn) (ks : List ℕ) → Stands s place ks → length ks ≡ 4 * key_total ts → Room place ts → inside textures palettes (view 4 key_of (key_total ts) ks) ≡ true
        → run (each (track textures palettes) (datums place ts)) s place ≡ accepted (place + 4 * key_total ts) (tracks place ts ks)
    unfolding run each total datums tracks Room after
    tracks_back place [] ks w n r h = to _ _ _ (omega arith)
    tracks_back place (t ∷ ts) ks w n r h =
        let c = t.count in
        let k : List ℕ = drop (4 * c) ks in
        let l : 4 * c ≤ length ks = omega arith in
        let e : take (4 * c) ks ++ k ≡ ks = take-append-drop (4 * c) ks in
        let v : Stands s (place + 4 * c) k = stands_at s k _ (place + 4 * c) (ap (λ (j : ℕ). place + j) (length-take-le (4 * c) ks l)) (stands_second s place (take (4 * c) ks) k (subst (Stands s place) (sym e) w)) in
        let m : length k ≡ 4 * key_total ts = length-drop (4 * c) ks ∙ omega arith in
        let b = (and-eq-true_iff _ _).0 (sym (ap (inside textures palettes) (view-add 4 key_of c (key_total ts) ks) ∙ inside_append textures palettes (view 4 key_of c ks) (view 4 key_of (key_total ts) k)) ∙ h) in
        run_bind_as (track textures palettes (datum c place)) _ s place _ (track_back place c ks r.1 r.0 w l b.0)
        ∙ run_bind_as (each (track textures palettes) (datums (place + 4 * c) ts)) _ s (place + 4 * c) _ (tracks_back (place + 4 * c) ts k v m r.2 b.1)
        ∙ to _ _ _ (omega arith)

-- ---- the tracks that are read back

pub tracks_length : (place : ℕ) (ts : List Drawn) (ks : List ℕ) → length (tracks place ts ks) ≡ length ts
unfolding tracks
tracks_length place [] ks = refl
tracks_length place (t ∷ ts) ks = ap suc (tracks_length (place + 4 * t.count) ts (drop (4 * t.count) ks))

-- they have as many keys
pub tracks_keys : (place : ℕ) (ts : List Drawn) (ks : List ℕ) → total key_count (tracks place ts ks) ≡ key_total ts
unfolding tracks total
tracks_keys place [] ks = refl
tracks_keys place (t ∷ ts) ks =
    ap (λ (n : ℕ). n + total key_count (tracks (place + 4 * t.count) ts (drop (4 * t.count) ks))) (view-length 4 key_of t.count ks)
    ∙ ap (λ (n : ℕ). t.count + n) (tracks_keys (place + 4 * t.count) ts (drop (4 * t.count) ks))

-- track i: where its keys stand, and which they are
pub track_at_lem : (place : ℕ) (ts : List Drawn) (ks : List ℕ) (i : ℕ) (x : Drawn) (y : Track) → i < length ts
    → get_or (tracks place ts ks) i y ≡ record { place = place + 4 * key_total (take i ts); keys = view 4 key_of (get_or ts i x).count (drop (4 * key_total (take i ts)) ks) }
unfolding tracks total
track_at_lem place [] ks i x y h = absurd (omega arith)
track_at_lem place (t ∷ ts) ks zero x y h = rw (add-zero place) refl
track_at_lem place (t ∷ ts) ks (suc i) x y h =
    let k = key_total (take i ts) in
    let e : place + 4 * t.count + 4 * k ≡ place + 4 * (t.count + k) = omega arith in
    let g : 4 * t.count + 4 * k ≡ 4 * (t.count + k) = omega arith in
    track_at_lem (place + 4 * t.count) ts (drop (4 * t.count) ks) i x y (omega arith) ∙ rw (drop-drop (4 * k) (4 * t.count) ks, e, g) refl

-- the keys of the tracks before it and its own are among all keys
pub keys_before_lem : (ts : List Drawn) (i : ℕ) (x : Drawn) → i < length ts → key_total (take i ts) + (get_or ts i x).count ≤ key_total ts
unfolding total
keys_before_lem [] i x h = absurd (omega arith)
keys_before_lem (t ∷ ts) zero x h = omega arith
keys_before_lem (t ∷ ts) (suc i) x h = let w = keys_before_lem ts i x (omega arith) in omega arith
