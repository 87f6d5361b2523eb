-- A pattern entry's keys, its tracks and its run, by what the entry's bytes hold. Assumes nothing.
use Prim.Native.Nat.{ℕ, zero, suc, ◌+◌, ◌-◌, ◌*◌, ◌/◌, min, max, ◌≤◌, ◌<◌}
use mathlib.Core.Bool.{Bool, true, false, ◌&&◌, and-true, and_assoc}
use mathlib.Core.List.{List, [], ◌∷◌, ◌++◌}
use mathlib.Core.Logic.{⊎_elim}
use mathlib.Core.Path.{◌≡◌, refl, sym, ap, ◌∙◌}
use native.Mathlib.Nat.{add-zero}
use native.Mathlib.Numerals.{add-one}
use native.Mathlib.Omega.{arith}
use borrow.Author.Tests.{lt-ltb, le-ltb, ltb-true, ltb-false}
use lib.Dec.{ltb}
use lib.ListN.{length, take, drop, get_or, drop_of_length-le}
use lib.Seq.{drop-cons}
use Rattle.std.specs.Prelude.{Ok, Err}
use Rattle.util.specs.declared.refusal.Refusal.{Refusal}
use Rattle.util.specs.RefusalCode.{number_of}
use Rattle.util.specs.Bits.{bits}
use Rattle.util.specs.View.{word_at}
use Rattle.util.specs.Reader.{Reader, done, Outcome, accepted, refused, run, bind, each, unless}
use Rattle.util.specs.ReaderCode.{tally_of}
use Rattle.util.specs.Sums.{total}
use Rattle.util.proofs.All.{Bytes, word_lt}
use Rattle.util.proofs.Cut.{le_or_lt, had, short, past, no_further}
use Rattle.util.proofs.ReadsLaws.{goes_on, stops, one_value, not_both}
use Rattle.util.proofs.Each.{counted_of, uncounted_of, from_zero, items_read}
use Rattle.util.proofs.ViewLaws.{word_join, word_part, view_there, view-length, view-take}
use Rattle.info_block.specs.declared.InfoBlock.{InfoBlock}
use Rattle.pattern.specs.declared.ItemList.{ItemList}
use Rattle.pattern.specs.declared.Pattern.{Pattern as Known}
use Rattle.pattern.specs.declared.PatternKeyframe.{PatternKeyframe}
use Rattle.info_block.specs.InfoBlock.{Block, info_block}
use Rattle.info_block.specs.InfoBlockCode.{block_at, BlockReads}
use Rattle.pattern.specs.Pattern.{Key, Track, Pattern, key_count, key_of, inside, track, pattern, first_later, choice}
use Rattle.pattern.specs.PatternCode.{key_means, keys_at, names_mean, ListedAt, WholePattern}

-- ---- keys

-- the key whose four bytes stand at p
abbrev pub key_at : List ℕ → ℕ → Key
key_at s p = record { frame = word_at 2 s p; texture = word_at 1 s (p + 2); palette = word_at 1 s (p + 3) }

pub key_there : (s : List ℕ) (p : ℕ) → key_of (take 4 (drop p s)) ≡ key_at s p
key_there s p = rw (word_part 2 4 p 0 s (omega arith), word_part 1 4 p 2 s (omega arith), word_part 1 4 p 3 s (omega arith), add-zero p) refl

-- a word of three bytes is below `count` times 65536, or past a byte's 256 times, exactly if its highest byte is below `count`
pub word_below : (word count : ℕ) → word < 16777216 → ltb word (65536 * min count 256) ≡ ltb (word / 65536) count
word_below word count h = go (ltb (word / 65536) count) refl
  where
    go : (b : Bool) → b ≡ ltb (word / 65536) count → ltb word (65536 * min count 256) ≡ b
    go true e = let l = ltb-true (word / 65536) count (sym e) in lt-ltb word (65536 * min count 256) (omega arith)
    go false e = let l = ltb-false (word / 65536) count (sym e) in le-ltb word (65536 * min count 256) (omega arith)

-- a key read as one word: the texture is the highest of its three low bytes, the palette of its three high ones
pub key_word : (s : List ℕ) (p : ℕ) → Bytes s → p + 4 ≤ length s → (textures palettes : ℕ)
    → ltb (bits (word_at 4 s p) 0 24 / 65536) textures && ltb (bits (word_at 4 s p) 8 32 / 65536) palettes ≡ inside textures palettes (key_of (take 4 (drop p s)) ∷ [])
unfolding inside
key_word s p h l textures palettes =
    let low : word_at 2 s p < 65536 = word_lt 2 s p h in
    let t : word_at 1 s (p + 2) < 256 = word_lt 1 s (p + 2) h in
    let q : word_at 1 s (p + 3) < 256 = word_lt 1 s (p + 3) h in
    let j : word_at 2 s (p + 2) ≡ word_at 1 s (p + 2) + 256 * word_at 1 s (p + 3) = let m : p + 2 + 1 ≡ p + 3 = omega arith in rw m at (word_join 1 1 s (p + 2) (omega arith)) in
    let w : word_at 4 s p ≡ word_at 2 s p + 65536 * word_at 2 s (p + 2) = word_join 2 2 s p (omega arith) in
    let texture : bits (word_at 4 s p) 0 24 / 65536 ≡ word_at 1 s (p + 2) = omega arith in
    let palette : bits (word_at 4 s p) 8 32 / 65536 ≡ word_at 1 s (p + 3) = omega arith in
    ap (λ (x : ℕ). ltb x textures && ltb (bits (word_at 4 s p) 8 32 / 65536) palettes) texture
    ∙ ap (λ (x : ℕ). ltb (word_at 1 s (p + 2)) textures && ltb x palettes) palette
    ∙ sym (and-true (ltb (word_at 1 s (p + 2)) textures && ltb (word_at 1 s (p + 3)) palettes))
    ∙ ap (λ (k : Key). inside textures palettes (k ∷ [])) (sym (key_there s p))

-- keys are inside where those before and those after are
pub inside_append : (textures palettes : ℕ) (xs ys : List Key) → inside textures palettes (xs ++ ys) ≡ inside textures palettes xs && inside textures palettes ys
unfolding inside
inside_append textures palettes [] ys = refl
inside_append textures palettes (x ∷ xs) ys =
    let one = ltb x.texture textures && ltb x.palette palettes in
    ap (λ (b : Bool). one && b) (inside_append textures palettes xs ys) ∙ sym (and_assoc one (inside textures palettes xs) (inside textures palettes ys))

-- the first key of a later frame has index i where that is one and none before it is, or where there are i keys
first_is : (ks : List Key) (d : Key) (frame i : ℕ) → i ≤ length ks → ((k : ℕ) → k < i → (get_or ks k d).frame ≤ frame) → (i < length ks → frame < (get_or ks i d).frame) → first_later ks frame ≡ i
unfolding first_later
first_is [] d frame i h b a = omega arith
first_is (k ∷ ks) d frame zero h b a = rw (lt-ltb frame k.frame (a (omega arith))) refl
first_is (k ∷ ks) d frame (suc i) h b a = rw (le-ltb frame k.frame (b 0 (omega arith))) (ap suc (first_is ks d frame i (omega arith) (λ j l. b (suc j) (omega arith)) (λ l. a (omega arith))))

module _ (s : List ℕ) (l : ItemList) where
  pub keys_length : length (keys_at s l) ≡ l.count
  keys_length = view-length 4 key_of l.count (drop l.place s)

  -- the key that stands at index k
  abbrev pub stands : ℕ → Key
  stands k = key_of (take 4 (drop (l.place + 4 * k) s))

  stands_there : (k : ℕ) (default : Key) → k < l.count → get_or (keys_at s l) k default ≡ stands k
  stands_there k default h = view_there 4 key_of l.count k l.place s default h

  -- `all` is whether the keys before k are inside, `one` whether key k is
  pub inside_next : (k : ℕ) → k < l.count → (textures palettes : ℕ) (all one : Bool) → one ≡ inside textures palettes (stands k ∷ [])
      → (all && one) && inside textures palettes (drop (k + 1) (keys_at s l)) ≡ all && inside textures palettes (drop k (keys_at s l))
  inside_next k h textures palettes all one o =
      let rest = drop (k + 1) (keys_at s l) in
      let q : k < length (keys_at s l) = rw keys_length h in
      let step : drop k (keys_at s l) ≡ stands k ∷ rest = rw (drop-cons (keys_at s l) k (stands k) q, add-one k, stands_there k (stands k) h) refl in
      and_assoc all one (inside textures palettes rest)
      ∙ ap (λ (b : Bool). all && b) (rw (step, o) (sym (inside_append textures palettes (stands k ∷ []) rest)))

  pub inside_all : (k : ℕ) → l.count ≤ k → (textures palettes : ℕ) (all : Bool) → all && inside textures palettes (drop k (keys_at s l)) ≡ all
  unfolding inside
  inside_all k h textures palettes all = let q : length (keys_at s l) ≤ k = rw keys_length h in rw (drop_of_length-le (keys_at s l) q) (and-true all)

  -- key k is of a later frame, or of none
  module _ (frame : ℕ) where
    abbrev pub Later : ℕ → Type 0
    Later k = (key : PatternKeyframe) × (key_means key ≡ stands k) × (frame < key.frame)

    abbrev pub NotLater : ℕ → Type 0
    NotLater k = (key : PatternKeyframe) × (key_means key ≡ stands k) × (key.frame ≤ frame)

    frame_at : (k : ℕ) → k < l.count → (key : PatternKeyframe) → key_means key ≡ stands k → (d : Key) → (get_or (keys_at s l) k d).frame ≡ key.frame
    frame_at k h key e d = ap (λ (x : Key). x.frame) (stands_there k d h ∙ sym e)

    not_later_at : (k : ℕ) → k < l.count → NotLater k → (d : Key) → (get_or (keys_at s l) k d).frame ≤ frame
    not_later_at k h w d =
        let e = frame_at k h w.0 w.1 d in
        let q : w.0.frame ≤ frame = w.2 in
        omega arith

    abbrev First : ℕ → Type 0
    First i = (i ≡ first_later (keys_at s l) frame) × (i ≤ l.count)

    -- i is the first index whose key is of a later frame
    pub found_later : (i : ℕ) → i < l.count → Later i → ((k : ℕ) → k < i → NotLater k) → First i
    found_later i h w before =
        let n : i ≤ length (keys_at s l) = omega (arith, keys_length) in
        let e = frame_at i h w.0 w.1 (stands 0) in
        let q : frame < w.0.frame = w.2 in
        (sym (first_is (keys_at s l) (stands 0) frame i n (λ k b. not_later_at k (omega arith) (before k b) (stands 0)) (λ _. omega arith)), omega arith)

    -- none is
    pub none_later : ((k : ℕ) → k < l.count → NotLater k) → First l.count
    none_later before =
        (sym (first_is (keys_at s l) (stands 0) frame l.count (omega (arith, keys_length)) (λ k q. not_later_at k q (before k q) (stands 0)) (λ q. omega (arith, keys_length))), omega arith)

  -- key j is the choice where j comes before the first key of a later frame, or both are 0
  pub chosen : (frame later j : ℕ) (k : Key) → later ≡ first_later (keys_at s l) frame → later - 1 ≡ j → j < l.count → k ≡ stands j → (default : Key) → k ≡ choice (keys_at s l) default frame
  unfolding choice
  chosen frame later j k e q h w default = rw (← e, q) (w ∙ sym (stands_there j default h))

-- ---- a track

-- .. whose datum stands at `datum`, with the keys l
module _ (textures palettes : ℕ) (s : List ℕ) (datum m : ℕ) (l : ItemList) (w : ListedAt s (datum + 6) 4 datum l) where
  abbrev datum_track : Reader Track
  datum_track = track textures palettes (take 8 (drop datum s))

  where_at : word_at 2 (take 8 (drop datum s)) 6 ≡ l.place
  where_at = word_part 2 8 datum 6 s (omega arith) ∙ sym w.place

  how_many : word_at 4 (take 8 (drop datum s)) 0 ≡ l.count
  how_many = word_part 4 8 datum 0 s (omega arith) ∙ (rw (add-zero datum) (sym w.count))

  pub track_short : length s < l.place + 4 * l.count → run datum_track s m ≡ refused 2
  unfolding run bind track
  track_short h = rw (where_at, how_many) (short _ _ _ h)

  module _ (h : l.place + 4 * l.count ≤ length s) (b : Bool) (e : b ≡ inside textures palettes (keys_at s l)) where
    pub track_outside : b ≡ false → run datum_track s m ≡ refused 8
    unfolding run bind track unless
    track_outside q = rw (where_at, how_many, view-take 4 key_of l.count (drop l.place s), ← e, q) (had _ _ _ _ h refl)

    pub track_whole : b ≡ true → run datum_track s m ≡ accepted (max m (l.place + 4 * l.count)) (record { place = l.place; keys = keys_at s l })
    unfolding run bind track unless
    track_whole q = rw (where_at, how_many, view-take 4 key_of l.count (drop l.place s), ← e, q) (had _ _ _ _ h refl)

  -- a track that is accepted: its keys stand in the section
  module _ (t : Track) (r : ℕ) (a : run datum_track s m ≡ accepted r t) where
    pub track_keys_end : l.place + 4 * l.count ≤ length s
    track_keys_end = ⊎_elim (λ (h : l.place + 4 * l.count ≤ length s). h) (λ (h : length s < l.place + 4 * l.count). absurd (not_both a (track_short h))) (le_or_lt (l.place + 4 * l.count) (length s))

    pub track_is : t ≡ record { place = l.place; keys = keys_at s l }
    track_is = go (inside textures palettes (keys_at s l)) refl
      where
        go : (b : Bool) → b ≡ inside textures palettes (keys_at s l) → t ≡ record { place = l.place; keys = keys_at s l }
        go true e = one_value a (track_whole track_keys_end true e refl)
        go false e = absurd (not_both a (track_outside track_keys_end false e refl))

-- ---- the entry

pub header_short : (s : List ℕ) → length s < 12 → run pattern s 0 ≡ refused 2
unfolding run bind pattern
header_short s h = past _ _ _ (past _ _ _ (past _ _ _ (past _ _ _ (past _ _ _ (short _ _ _ h)))))

-- an entry of the texture names t and the palette names p
module _ (s : List ℕ) (t p : ItemList) (et : ListedAt s 8 1 6 t) (ep : ListedAt s 10 1 7 p) where
  pub textures_short : length s < t.place + 16 * t.count → run pattern s 0 ≡ refused 2
  unfolding run bind pattern
  textures_short h = rw (← et.place, ← et.count) (past _ _ _ (past _ _ _ (past _ _ _ (past _ _ _ (past _ _ _ (past _ _ _ (short _ _ _ h)))))))

  pub palettes_short : length s < p.place + 16 * p.count → run pattern s 0 ≡ refused 2
  unfolding run bind pattern
  palettes_short h = rw (← ep.place, ← ep.count) (past _ _ _ (past _ _ _ (past _ _ _ (past _ _ _ (past _ _ _ (past _ _ _ (past _ _ _ (short _ _ _ h))))))))

  -- the entry that some tracks make, and what follows its info block
  abbrev pub held_of : Block → List Track → Pattern
  held_of block tracks = record { frames = word_at 2 s 4; textures = names_mean t; palettes = names_mean p; names = block.names; tracks = tracks }

  abbrev pub tracks_of : Block → Reader (List Track)
  tracks_of block = each (track t.count p.count) block.datums

  abbrev pub after_block : Block → Reader Pattern
  after_block block = bind (tracks_of block) (λ tracks. done (held_of block tracks))

  -- how far the header and the names reach
  abbrev pub before : ℕ
  before = max (max 12 (t.place + 16 * t.count)) (p.place + 16 * p.count)

  module _ (h : 12 ≤ length s) (ht : t.place + 16 * t.count ≤ length s) (hp : p.place + 16 * p.count ≤ length s) where
    pub names_had : run pattern s 0 ≡ run (bind (info_block 12 8) after_block) s before
    unfolding run bind pattern
    names_had =
        rw (← et.place, ← et.count, ← ep.place, ← ep.count)
        (had _ _ _ _ (omega arith) (had _ _ _ _ (omega arith) (had _ _ _ _ (omega arith) (had _ _ _ _ (omega arith) (had _ _ _ _ (omega arith) (had _ _ _ _ (omega arith) (had _ _ _ _ ht (had _ _ _ _ hp refl))))))))

    pub block_refused : (e : Refusal) → BlockReads s 12 8 before (Err e) → run pattern s 0 ≡ refused (number_of e)
    block_refused e w = names_had ∙ stops _ _ _ _ (number_of e) w.reads

    module _ (k : InfoBlock) (w : (reach : ℕ) → BlockReads s 12 8 reach (Ok k)) (start : ℕ) (es : start ≡ max before k.end) where
      abbrev block : Block
      block = block_at s 8 k

      block_read : run pattern s 0 ≡ run (after_block block) s start
      block_read = names_had ∙ (goes_on _ _ _ _ _ _ (w before).reads ∙ ap (run (after_block block) s) (sym es))

      module _ (o : Outcome ℕ) (e : o ≡ tally_of (total key_count) (run (tracks_of block) s start)) where
        pub tracks_refused : (n : ℕ) → o ≡ refused n → run pattern s 0 ≡ refused n
        tracks_refused n q = block_read ∙ stops _ _ _ _ n (uncounted_of _ _ n (sym e ∙ q))

        pub tracks_whole : (f reach samples : ℕ) → f ≡ word_at 2 s 4 → o ≡ accepted reach samples → WholePattern s (record { frames = f; textures = t; palettes = p; block = k; reach = reach; samples = samples })
        unfolding run
        tracks_whole f reach samples ef q =
            let r = counted_of (total key_count) (run (tracks_of block) s start) reach samples (sym e ∙ q) in
            let reads : run pattern s 0 ≡ accepted reach (held_of block r.0) = block_read ∙ goes_on _ _ _ _ _ _ r.1 in
            record {
              held = held_of block r.0;
              reads = reads;
              frames = sym ef;
              textures = refl;
              textures_inside = ht;
              palettes = refl;
              palettes_inside = hp;
              block = w 0;
              names = refl;
              tracks = from_zero (tracks_of block) s start reach r.0 r.1;
              samples = r.2;
              inside = no_further pattern s 0 reach (held_of block r.0) reads (omega arith);
            }

-- ---- a whole entry: each track's datum stands in it, and its keys are those of the entry

module _ (s : List ℕ) (a : Known) (w : WholePattern s a) where
  abbrev track_reader : List ℕ → Reader Track
  track_reader = track a.textures.count a.palettes.count

  tracks_are : (length w.held.tracks ≡ a.block.count)
      × ((i : ℕ) (d : Track) → i < a.block.count → (k : ℕ) × (run (track_reader (take 8 (drop (a.block.datums + 8 * i) s))) s 0 ≡ accepted k (get_or w.held.tracks i d)))
  tracks_are = items_read track_reader s 8 (λ bs. bs) a.block.datums a.block.count [] w.tracks.0 w.held.tracks w.tracks.1

  pub track_count_lem : length w.held.tracks ≡ a.block.count
  track_count_lem = tracks_are.0

  module _ (i : ℕ) (h : i < a.block.count) where
    abbrev datum : ℕ
    datum = a.block.datums + 8 * i

    pub datum_inside : datum + 8 ≤ length s
    datum_inside = let b = w.block.holds in omega arith

    module _ (l : ItemList) (at : ListedAt s (datum + 6) 4 datum l) (d : Track) where
      pub keys_inside : l.place + 4 * l.count ≤ length s
      keys_inside = track_keys_end _ _ s datum 0 l at _ _ (tracks_are.1 i d h).1

      pub track_of_lem : get_or w.held.tracks i d ≡ record { place = l.place; keys = keys_at s l }
      track_of_lem = track_is _ _ s datum 0 l at _ _ (tracks_are.1 i d h).1
