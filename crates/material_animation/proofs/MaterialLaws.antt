-- The runs of an SRT0 entry's readers, by what the section holds. Assumes nothing.
use Prim.Native.Nat.{ℕ, ◌+◌, ◌-◌, ◌*◌, ◌%◌, ◌≤◌, ◌<◌, max}
use mathlib.Core.Bool.{Bool, true, false, ◌&&◌, ◌||◌}
use mathlib.Core.List.{List, []}
use mathlib.Core.Logic.{⊎_elim}
use mathlib.Core.Path.{◌≡◌, refl, sym, ap, ◌∙◌}
use native.Mathlib.Nat.{add_assoc, add-zero, zero-add}
use native.Mathlib.Omega.{arith}
use borrow.Author.Tests.{eq-eqb, ne_eqb}
use lib.Dec.{eqb, lit≤, lit<}
use lib.ListN.{length, take, drop, get_or}
use lib.Ieee.{Float}
use Rattle.util.specs.View.{word_at, view}
use Rattle.util.specs.Fixed.{fix1_10_5}
use Rattle.std.specs.Prelude.{Ok, Err}
use Rattle.util.specs.declared.refusal.Refusal.{Refusal}
use Rattle.util.specs.RefusalCode.{number_of as refusal_number}
use Rattle.util.specs.Reader.{Reader, done, Outcome, accepted, refused, run, bind, bytes, word, each}
use Rattle.util.specs.ReaderCode.{tally_of}
use Rattle.util.specs.Sums.{total}
use Rattle.util.proofs.Cut.{le_or_lt, had, past, short, no_further, max_right, to}
use Rattle.util.proofs.Calls.{accepted_first}
use Rattle.util.proofs.ReadsLaws.{goes_on, stops, done_is}
use Rattle.util.proofs.Each.{rest, next, ended, all, from_none, counted_of, uncounted_of, from_zero, each_read, items_read}
use Rattle.util.proofs.ViewLaws.{word_part, view-take}
use Rattle.matrix.specs.Matrix.{f0, translation4}
use Rattle.info_block.specs.declared.InfoBlock.{InfoBlock}
use Rattle.material_animation.specs.declared.MaterialAnimation.{MaterialAnimation as Known}
use Rattle.curve.specs.Curve.{Curve, none, samples, sample_count, mix, sample_at, number_of}
use Rattle.curve.specs.CurveCode.{list_means}
use Rattle.info_block.specs.InfoBlock.{Block, info_block}
use Rattle.info_block.specs.InfoBlockCode.{block_at, BlockReads}
use Rattle.info_block.proofs.InfoBlockLaws.{block_even}
use Rattle.material_animation.specs.MaterialAnimation.{MaterialAnimation, track_samples, carries, channel_list, channel, channel_numbers, channels, material_animation, Shift, shift_at, uv_matrix_at}
use Rattle.material_animation.specs.MaterialAnimationCode.{track_at, ChannelGives, TrackIs, WholeMaterial}

-- ---- a channel

carries_low : (n flags : ℕ) → n < 3 → carries n flags ≡ false
carries_low n flags h = rw (ne_eqb n 3 (λ e. omega arith), ne_eqb n 4 (λ e. omega arith)) refl

carries_other : (n flags : ℕ) → (flags ≡ 16 → ⊥) → carries n flags ≡ false
carries_other n flags h = rw (ne_eqb flags 16 h) (go (eqb n 3 || eqb n 4))
  where
    go : (b : Bool) → (b && false) ≡ false
    go true = refl
    go false = refl

carries_list : (n flags : ℕ) → 3 ≤ n → n < 5 → flags ≡ 16 → carries n flags ≡ true
carries_list n flags l h e = rw (eq-eqb flags 16 e) (⊎_elim four three (le_or_lt 4 n))
  where
    four : 4 ≤ n → ((eqb n 3 || eqb n 4) && true) ≡ true
    four i = rw (ne_eqb n 3 (λ e. omega arith), eq-eqb n 4 (omega arith)) refl

    three : n < 4 → ((eqb n 3 || eqb n 4) && true) ≡ true
    three i = rw (eq-eqb n 3 (omega arith)) refl

-- channel n's datum, of the track whose datum stands at `track`
abbrev datum_at : List ℕ → ℕ → ℕ → List ℕ
datum_at s track n = take 8 (drop (8 * n) (track_at s track))

module _ (s : List ℕ) (track n : ℕ) (h : n < 5) where
  -- a word of the datum, where it stands in the section
  datum_word : (w k : ℕ) → k + w ≤ 8 → word_at w (datum_at s track n) k ≡ word_at w s (track + 8 * n + k)
  datum_word w k l =
      word_part w 8 (8 * n) k (track_at s track) l ∙ (word_part w 40 track (8 * n + k) s (omega arith) ∙ ap (word_at w s) (sym (add_assoc track (8 * n) k)))

  module _ (reach : ℕ) where
    carries_none : carries n (word_at 1 (datum_at s track n) 3) ≡ false → run (channel (track_at s track) n) s reach ≡ accepted reach none
    unfolding channel run
    carries_none e = rw e refl

    -- channels 0 to 2 carry no list, and nor do other flags
    pub channel_low : n < 3 → run (channel (track_at s track) n) s reach ≡ accepted reach none
    channel_low l = carries_none (carries_low n (word_at 1 (datum_at s track n) 3) l)

    pub channel_other : (word_at 1 s (track + 8 * n + 3) ≡ 16 → ⊥) → run (channel (track_at s track) n) s reach ≡ accepted reach none
    channel_other d = carries_none (carries_other n (word_at 1 (datum_at s track n) 3) (λ e. d (sym (datum_word 1 3 (lit≤ tt)) ∙ e)))

    module _ (low : 3 ≤ n) (flags : word_at 1 s (track + 8 * n + 3) ≡ 16) (frames place : ℕ) (f : word_at 2 s (track + 8 * n) ≡ frames) (p : word_at 4 s (track + 8 * n + 4) ≡ place) where
      carried : carries n (word_at 1 (datum_at s track n) 3) ≡ true
      carried = carries_list n (word_at 1 (datum_at s track n) 3) low h (datum_word 1 3 (lit≤ tt) ∙ flags)

      datum_frames : word_at 2 (datum_at s track n) 0 ≡ frames
      datum_frames = datum_word 2 0 (lit≤ tt) ∙ (ap (word_at 2 s) (add-zero (track + 8 * n)) ∙ f)

      datum_place : word_at 4 (datum_at s track n) 4 ≡ place
      datum_place = datum_word 4 4 (lit≤ tt) ∙ p

      pub channel_short : length s < place + 2 * frames → run (channel (track_at s track) n) s reach ≡ refused 2
      unfolding channel channel_list run bind
      channel_short l = rw (carried, datum_frames, datum_place) (short _ _ _ l)

      -- the list as the code has it
      pub channel_whole : place + 2 * frames ≤ length s
          → run (channel (track_at s track) n) s reach ≡ accepted (max reach (place + 2 * frames)) (samples (list_means (record { place = place; length = frames; start = 0; end = frames; size = 2; rate = 0 })) (view 2 (number_of fix1_10_5) frames (drop place s)))
      unfolding channel channel_list run bind
      channel_whole l =
          let none_over : (frames - 0) % 1 ≡ 0 = omega arith in
          rw (carried, datum_frames, datum_place, view-take 2 (number_of fix1_10_5) frames (drop place s), none_over) (had _ _ _ _ l refl)

-- ---- the channels of a track

module _ (s : List ℕ) (track : ℕ) where
  -- what is left from channel i on, where n values have been counted
  abbrev left : ℕ → ℕ → ℕ → Outcome ℕ
  left i m n = rest sample_count (channel (track_at s track)) s channel_numbers 0 i m n

  -- channel i is accepted: go on; or it is refused, and so are the channels
  go_on : (i m n j : ℕ) (c : Curve Float) → i < 5 → run (channel (track_at s track) (get_or channel_numbers i 0)) s m ≡ accepted j c → left i m n ≡ left (i + 1) j (n + sample_count c)
  go_on i m n j c h e = next sample_count (channel (track_at s track)) s channel_numbers 0 i m n j (sample_count c) h (ap (tally_of sample_count) e)

  stop : (i m n k : ℕ) → i < 5 → run (channel (track_at s track) (get_or channel_numbers i 0)) s m ≡ refused k → left i m n ≡ refused k
  stop i m n k h e = ended sample_count (channel (track_at s track)) s channel_numbers 0 i m n k h (ap (tally_of sample_count) e)

  module _ (reach : ℕ) where
    passed : (i : ℕ) → i < 3 → run (channel (track_at s track) i) s reach ≡ accepted reach none
    passed i h = channel_low s track i (omega arith) reach h

    abbrev tracked : Outcome ℕ
    tracked = tally_of track_samples (run (channels (track_at s track)) s reach)

    first_three : tracked ≡ left 3 reach 0
    first_three =
        sym (from_none sample_count (run (channels (track_at s track)) s reach))
        ∙ (go_on 0 reach 0 reach none (lit< tt) (passed 0 (lit< tt))
        ∙ (go_on 1 reach 0 reach none (lit< tt) (passed 1 (lit< tt))
        ∙ go_on 2 reach 0 reach none (lit< tt) (passed 2 (lit< tt))))

    -- channel 3 is refused; or 4 is; or both are whole
    pub track_no_u : (n : ℕ) → run (channel (track_at s track) 3) s reach ≡ refused n → tracked ≡ refused n
    track_no_u n e = first_three ∙ stop 3 reach 0 n (lit< tt) e

    module _ (u : Curve Float) (far : ℕ) (e : run (channel (track_at s track) 3) s reach ≡ accepted far u) where
      first_four : tracked ≡ left 4 far (sample_count u)
      first_four = first_three ∙ (go_on 3 reach 0 far u (lit< tt) e ∙ ap (left 4 far) (zero-add (sample_count u)))

      pub track_no_v : (n : ℕ) → run (channel (track_at s track) 4) s far ≡ refused n → tracked ≡ refused n
      track_no_v n q = first_four ∙ stop 4 far (sample_count u) n (lit< tt) q

      pub track_whole : (v : Curve Float) (end : ℕ) → run (channel (track_at s track) 4) s far ≡ accepted end v → tracked ≡ accepted end (sample_count u + sample_count v)
      track_whole v end q = first_four ∙ (go_on 4 far (sample_count u) end v (lit< tt) q ∙ all sample_count (channel (track_at s track)) s channel_numbers 0 5 end (sample_count u + sample_count v) (lit≤ tt))

-- ---- the entry

module _ (s : List ℕ) where
  pub entry_short : length s < 8 → run material_animation s 0 ≡ refused 2
  unfolding run bind material_animation
  entry_short h = past _ _ _ (past _ _ _ (short _ _ _ (omega arith)))

  -- the entry that some tracks make, and what follows its info block
  abbrev held_of : Block → List (List (Curve Float)) → MaterialAnimation
  held_of block tracks = record { frames = word_at 2 s 4; names = block.names; tracks = tracks }

  abbrev after_block : Block → Reader MaterialAnimation
  after_block block = bind (each channels block.datums) (λ tracks. done (held_of block tracks))

  module _ (h : 8 ≤ length s) where
    header_read : run material_animation s 0 ≡ run (bind (info_block 8 40) after_block) s 8
    unfolding run bind material_animation
    header_read = had _ _ _ _ (omega arith) (had _ _ _ _ (omega arith) (had _ _ _ _ h refl))

    pub block_refused : (e : Refusal) → BlockReads s 8 40 8 (Err e) → run material_animation s 0 ≡ refused (refusal_number e)
    block_refused e w = header_read ∙ stops _ _ _ _ (refusal_number e) w.reads

    module _ (b : InfoBlock) (w : (reach : ℕ) → BlockReads s 8 40 reach (Ok b)) where
      abbrev block : Block
      block = block_at s 40 b

      block_read : run material_animation s 0 ≡ run (after_block block) s b.end
      block_read = let i = (w 8).holds in header_read ∙ goes_on _ _ _ _ _ _ ((w 8).reads ∙ to _ _ _ (max_right 8 b.end (omega arith)))

      module _ (r : Outcome ℕ) (e : r ≡ tally_of (total track_samples) (run (each channels block.datums) s b.end)) where
        pub tracks_refused : (n : ℕ) → r ≡ refused n → run material_animation s 0 ≡ refused n
        tracks_refused n q = block_read ∙ stops _ _ _ _ n (uncounted_of _ _ n (sym e ∙ q))

        pub tracks_whole : (m n frames : ℕ) → r ≡ accepted m n → frames ≡ word_at 2 s 4 → WholeMaterial s (record { frames = frames; block = b; reach = m; samples = n })
        unfolding run
        tracks_whole m n frames q f =
            let v = counted_of (total track_samples) (run (each channels block.datums) s b.end) m n (sym e ∙ q) in
            record {
              held = held_of block v.0;
              reads = block_read ∙ goes_on _ _ _ _ _ _ v.1;
              frames = sym f;
              block = w 0;
              names = refl;
              tracks = from_zero (each channels block.datums) s b.end m v.0 v.1;
              samples = v.2;
              inside = no_further (each channels block.datums) s b.end m v.0 v.1 (w 0).holds.inside;
            }

-- ---- a track at a frame

pub shift_at_lem : (s : List ℕ) (track frame : ℕ) (u v : Float) → ChannelGives s track 3 (λ curve. sample_at mix f0 curve frame) u → ChannelGives s track 4 (λ curve. sample_at mix f0 curve frame) v
    → (curves : List (Curve Float)) → TrackIs s track curves → record { u = u; v = v } ≡ shift_at curves frame
unfolding shift_at
shift_at_lem s track frame u v hu hv curves w =
    let at = (each_read (channel (track_at s track)) s channel_numbers 0 w.reach curves w.reads).1 in
    let a = at 3 0 none (lit< tt) in
    let b = at 4 0 none (lit< tt) in
    cc (hu a.0 (get_or curves 3 none) a.1, hv b.0 (get_or curves 4 none) b.1)

pub uv_at : (shift : Shift) (curves : List (Curve Float)) (frame : ℕ) → shift ≡ shift_at curves frame → translation4 shift.u shift.v f0 ≡ uv_matrix_at curves frame
unfolding uv_matrix_at
uv_at shift curves frame e = ap (λ (x : Shift). translation4 x.u x.v f0) e

-- each track of a whole entry: its datum stands in the section, and its channels are those of the entry
module _ (s : List ℕ) (a : Known) (w : WholeMaterial s a) where
  pub track_inside : (i : ℕ) → i < a.block.count → a.block.datums + 40 * i + 40 ≤ length s
  track_inside i h = let b = w.block.holds in omega arith

  tracks_are : (length w.held.tracks ≡ a.block.count)
      × ((i : ℕ) (d : List (Curve Float)) → i < a.block.count → (k : ℕ) × (run (channels (track_at s (a.block.datums + 40 * i))) s 0 ≡ accepted k (get_or w.held.tracks i d)))
  tracks_are = items_read channels s 40 (λ bs. bs) a.block.datums a.block.count [] w.tracks.0 w.held.tracks w.tracks.1

  pub track_count_lem : length w.held.tracks ≡ a.block.count
  track_count_lem = tracks_are.0

  pub track_of_lem : (i : ℕ) → i < a.block.count → TrackIs s (a.block.datums + 40 * i) (get_or w.held.tracks i [])
  track_of_lem i h = let k = tracks_are.1 i [] h in record { reach = k.0; reads = k.1 }

-- ---- an entry that is accepted

-- what it was read from: its info block, and a reader of each track
record Taken (s : List ℕ) (v : MaterialAnimation) : Type 0 where
  block : Block
  start : ℕ
  end : ℕ
  far : ℕ
  read : run (info_block 8 40) s start ≡ accepted end block
  names : v.names ≡ block.names
  tracks : run (each channels block.datums) s end ≡ accepted far v.tracks

module _ (s : List ℕ) (m j : ℕ) (v : MaterialAnimation) (e : run material_animation s m ≡ accepted j v) where
  taken : Taken s v
  unfolding material_animation
  taken =
      let a = accepted_first (bytes 0 4) _ s m j v e in
      let b = accepted_first (word 4 2) _ s a.0 j v a.3 in
      let c = accepted_first (word 6 2) _ s b.0 j v b.3 in
      let d = accepted_first (info_block 8 40) _ s c.0 j v c.3 in
      let w = accepted_first (each channels d.1.datums) _ s d.0 j v d.3 in
      let q = done_is _ s w.0 j v w.3 in
      record {
        block = d.1;
        start = c.0;
        end = d.0;
        far = w.0;
        read = d.2;
        names = ap (λ (x : MaterialAnimation). x.names) (sym q);
        tracks = w.2 ∙ ap (λ (x : MaterialAnimation). accepted w.0 x.tracks) q;
      }

  -- every track has five channels
  pub five_channels : (t : ℕ) → t < length v.tracks → length (get_or v.tracks t []) ≡ 5
  five_channels t h =
      let w = taken in
      let r = each_read channels s w.block.datums w.end w.far v.tracks w.tracks in
      let k = r.1 t [] [] (omega (arith, r.0)) in
      (each_read (channel (get_or w.block.datums t [])) s channel_numbers 0 k.0 _ k.1).0

  -- there is a track for each name
  pub track_for_name : length v.tracks ≡ length v.names
  track_for_name =
      let w = taken in
      let c = block_even 8 40 s w.start w.end w.block w.read in
      (each_read channels s w.block.datums w.end w.far v.tracks w.tracks).0 ∙ (c.datums ∙ sym (ap length w.names ∙ c.names))
