-- What the calls on an SRT0 entry answer, from what is known of the entry. Assumes nothing.
use Prim.Native.Nat.{ℕ, zero, suc, ◌+◌, ◌*◌, ◌≤◌, ◌<◌}
use mathlib.Core.List.{List, []}
use mathlib.Core.Path.{◌≡◌, refl, sym, ap, ◌∙◌}
use native.Mathlib.Omega.{arith}
use borrow.Author.Tests.{lt-ltb, le-ltb}
use lib.Ieee.{Float}
use lib.ListN.{length, drop, get_or}
use Rattle.std.specs.Prelude.{Ok, Err}
use Rattle.util.specs.declared.refusal.Refusal.{Refusal}
use Rattle.util.specs.View.{view}
use Rattle.util.specs.Reader.{accepted, run, Verdict, answered, denied, told}
use Rattle.util.proofs.Each.{each_read}
use Rattle.curve.specs.declared.ScalarCurve.{ScalarCurve}
use Rattle.curve.specs.Curve.{Curve, none, recorded}
use Rattle.curve.specs.CurveCode.{scalar_curve}
use Rattle.info_block.specs.Name.{Name, name_among}
use Rattle.material_animation.specs.declared.MaterialAnimation.{MaterialAnimation}
use Rattle.material_animation.specs.MaterialAnimation.{channel, channel_numbers}
use Rattle.material_animation.specs.MaterialAnimationCode.{track_at, ChannelReads, WholeMaterial}
use Rattle.material_animation.proofs.MaterialLaws.{track_inside, track_count_lem, track_of_lem}
use Rattle.nitro.specs.declared.container.EntryAt.{EntryAt}
use Rattle.nitro.specs.Container.{srt}
use Rattle.nitro.specs.EntryCode.{Opened}
use Rattle.srt.specs.declared.TrackAt.{TrackAt}
use Rattle.calls.specs.Calls.{MaterialQuery, channel_curve, of_material, material_name, ask_material, ask, on, answer}
use Rattle.srt.specs.SrtCode.{TrackStands}
use Rattle.calls.proofs.CallsLaws.{asked}

-- ---- an entry that is opened

module _ (s : List ℕ) (i : ℕ) (e : EntryAt) (a : MaterialAnimation) (w : Opened srt WholeMaterial s i e a) where
  abbrev tracks : List (List (Curve Float))
  tracks = w.whole.held.tracks

  -- the names of the tracks
  pub name_of : (t : ℕ) (v : Verdict Name) → v ≡ name_among (view 16 (λ bs. bs) a.block.count (drop a.block.names (drop e.offset s))) t
      → v ≡ told (answer (on srt i (material_name t)) s)
  unfolding ask
  name_of t v q = q ∙ sym (asked srt s i (material_name t) e w.stands a.reach w.whole.held w.whole.reads ∙ ap (λ (l : List Name). name_among l t) w.whole.names)

  -- a track past the list
  pub track_past : (t : ℕ) → a.block.count ≤ t → (q : MaterialQuery) → told (answer (on srt i (of_material t q)) s) ≡ denied 9
  unfolding ask
  track_past t h q =
      let l : length tracks ≤ t = rw (track_count_lem (drop e.offset s) a w.whole) h in
      asked srt s i (of_material t q) e w.stands a.reach w.whole.held w.whole.reads ∙ rw (le-ltb t (length tracks) l) refl

  module _ (t : ℕ) (h : t < a.block.count) where
    datum_fits : a.block.datums + 40 * t + 40 ≤ length (drop e.offset s)
    datum_fits = track_inside (drop e.offset s) a w.whole t h

    pub track_stands : TrackStands s i t (record { offset = e.offset; datum = a.block.datums + 40 * t })
    unfolding ask
    track_stands =
        let l : t < length tracks = rw (track_count_lem (drop e.offset s) a w.whole) h in
        record {
          channels = get_or tracks t [];
          start = w.stands.holds;
          inside = datum_fits;
          track = track_of_lem (drop e.offset s) a w.whole t h;
          answers = λ q. asked srt s i (of_material t q) e w.stands a.reach w.whole.held w.whole.reads ∙ rw (lt-ltb t (length tracks) l) refl;
        }

-- ---- a track that is found

number_at : (c : ℕ) → c < 5 → get_or channel_numbers c 0 ≡ c
number_at zero h = refl
number_at (suc zero) h = refl
number_at (suc (suc zero)) h = refl
number_at (suc (suc (suc zero))) h = refl
number_at (suc (suc (suc (suc zero)))) h = refl
number_at (suc (suc (suc (suc (suc c))))) h = absurd (omega arith)

module _ (s : List ℕ) (i t : ℕ) (p : TrackAt) (w : TrackStands s i t p) (c : ℕ) where
  abbrev here : List ℕ
  here = drop p.offset s

  five_channels : length w.channels ≡ 5
  five_channels = (each_read (channel (track_at here p.datum)) here channel_numbers 0 w.track.reach w.channels w.track.reads).0

  -- a channel past the five
  pub channel_past : 5 ≤ c → told (answer (on srt i (of_material t (channel_curve c))) s) ≡ denied 9
  unfolding ask_material
  channel_past h = let l : length w.channels ≤ c = rw five_channels h in w.answers (channel_curve c) ∙ rw (le-ltb c (length w.channels) l) refl

  module _ (h : c < 5) where
    channel_run : (k : ℕ) × (run (channel (track_at here p.datum) c) here 0 ≡ accepted k (get_or w.channels c none))
    channel_run =
        let r = (each_read (channel (track_at here p.datum)) here channel_numbers 0 w.track.reach w.channels w.track.reads).1 c 0 none h in
        (r.0, rw (number_at c h) at r.1)

    -- a whole entry's channel is not refused
    pub channel_there : (n : Refusal) → ChannelReads here p.datum c 0 (Err n) → ⊥
    channel_there n x = let e = x.reads in let f = channel_run.1 in let z : ◌≡◌ {A = ℕ} 0 1 = cc in omega arith

    -- the channel that the code reads is the entry's
    pub channel_recorded : (curve : ScalarCurve) (far : ℕ) → ChannelReads here p.datum c 0 (Ok (curve, far))
        → answered (recorded p.offset (scalar_curve here curve)) ≡ told (answer (on srt i (of_material t (channel_curve c))) s)
    unfolding ask_material
    channel_recorded curve far x =
        let l : c < length w.channels = rw five_channels h in
        let e = x.reads in
        let f = channel_run.1 in
        let q : scalar_curve here curve ≡ get_or w.channels c none = cc in
        ap (λ (y : Curve Float). answered (recorded p.offset y)) q ∙ sym (w.answers (channel_curve c) ∙ rw (lt-ltb c (length w.channels) l) refl)
