-- What a cut does to a player, from what it does to the calls. Assumes nothing.
use Prim.Native.Nat.{ℕ, ◌≤◌, ◌<◌}
use mathlib.Core.List.{List, [], ◌∷◌, ◌++◌, append-nil}
use mathlib.Core.Logic.{⊎_elim}
use mathlib.Core.Option.{Option, none, some}
use mathlib.Core.Path.{◌≡◌, refl, sym, ap, subst, ◌∙◌}
use native.Mathlib.Omega.{arith}
use lib.ListN.{take, drop, take-append-drop}
use lib.Seq.{take-take}
use Rattle.util.specs.Reader.{Outcome, accepted, refused, Verdict, denied}
use Rattle.util.specs.Place.{front}
use Rattle.util.proofs.Cut.{le_or_lt}
use Rattle.nitro.specs.Container.{Kind, jnt, srt, pat, EntryRecord}
use Rattle.calls.specs.Kinds.{section_kind}
use Rattle.calls.specs.Calls.{check, on, answer}
use Rattle.calls.proofs.Demand3.{demand3}
use Rattle.calls.proofs.KindsLaws.{kinds, kind_cut}
use Rattle.player.specs.Player.{Player, Event, pick, tick, set, new, kept, step, play, shown_of, picture}
use Rattle.player.specs.Cuts.{Settled, whole, no_entry, EventSettled, AllSettled, Cuts}
use Rattle.player.proofs.StepLaws.{pick_refused, picks, tick_early, picture_early, tick_refused, ticks, picture_refused, pictures}
use Rattle.player.proofs.PlaysLaws.{refused_alone, refusals}

module _ (s : List ℕ) (k : ℕ) (t : List ℕ) where
  -- ---- from the reach on

  -- an entry that the front decides about is checked alike
  checked_alike : (i : ℕ) → Settled s k i → answer (check i) (front k s t) ≡ answer (check i) s
  checked_alike i (whole r e h l) = (demand3 s k t).entry_kept i r e h l ∙ sym h
  checked_alike i (no_entry n h d) =
      (demand3 s k t).refusal_stays (check i) n h d
      ∙ sym (subst (λ (x : List ℕ). answer (check i) x ≡ refused n) (take-append-drop k s) ((demand3 s k (drop k s)).refusal_stays (check i) n h d))

  -- the entry of a player, if there is one, is whole, with a reach up to the cut
  abbrev Ready : Player → Type 0
  Ready p = (i : ℕ) → p.entry ≡ some i → (r : ℕ) × (e : EntryRecord) × (answer (check i) s ≡ accepted r e) × (r ≤ k)

  moved_alike : (p : Player) → Ready p → (e : Event) → EventSettled s k e → step (front k s t) p e ≡ step s p e
  unfolding step
  moved_alike p h (pick i) a = rw (checked_alike i a) refl
  moved_alike p h tick a = go p.entry refl
    where
      go : (o : Option ℕ) → p.entry ≡ o → step (front k s t) p tick ≡ step s p tick
      go none q = tick_early (front k s t) p q ∙ sym (tick_early s p q)
      go (some i) q = let w = h i q in ticks (front k s t) p i q w.0 w.1 ((demand3 s k t).entry_kept i w.0 w.1 w.2 w.3) ∙ sym (ticks s p i q w.0 w.1 w.2)
  moved_alike p h (set mode) a = refl

  still_ready : (p : Player) → Ready p → (e : Event) → EventSettled s k e → Ready (kept p (step s p e))
  still_ready p h (pick i) a = go a
    where
      go : Settled s k i → Ready (kept p (step s p (pick i)))
      go (whole r e q l) =
          subst (λ (v : Verdict Player). Ready (kept p v)) (sym (picks s p i r e q))
          (λ j z. let x : i ≡ j = cc in subst (λ (y : ℕ). (r : ℕ) × (e : EntryRecord) × (answer (check y) s ≡ accepted r e) × (r ≤ k)) x (r, e, q, l))
      go (no_entry n q d) =
          subst (λ (v : Verdict Player). Ready (kept p v)) (sym (pick_refused s p i n (sym (checked_alike i (no_entry n q d)) ∙ (demand3 s k t).refusal_stays (check i) n q d))) h
  still_ready p h tick a = go p.entry refl
    where
      go : (o : Option ℕ) → p.entry ≡ o → Ready (kept p (step s p tick))
      go none q = subst (λ (v : Verdict Player). Ready (kept p v)) (sym (tick_early s p q)) h
      go (some i) q = let w = h i q in subst (λ (v : Verdict Player). Ready (kept p v)) (sym (ticks s p i q w.0 w.1 w.2)) (λ j z. h j (q ∙ z))
  still_ready p h (set mode) a = unfold step in h

  plays_alike : (p : Player) → Ready p → (es : List Event) → AllSettled s k es → (play (front k s t) p es ≡ play s p es) × Ready (play s p es)
  unfolding play
  plays_alike p h [] a = (refl, h)
  plays_alike p h (e ∷ es) a =
      let w = plays_alike (kept p (step s p e)) (still_ready p h e a.0) es a.1 in
      (ap (λ (v : Verdict Player). play (front k s t) (kept p v) es) (moved_alike p h e a.0) ∙ w.0, w.1)

  -- what is shown of a whole entry
  shown_alike : (i r : ℕ) (e : EntryRecord) → answer (check i) s ≡ accepted r e → r ≤ k → (kd : Kind) (frame index : ℕ) → shown_of kd i frame index (front k s t) ≡ shown_of kd i frame index s
  shown_alike i r e h l jnt frame index = rw ((demand3 s k t).call_kept i r e h l (on jnt i _) refl) refl
  shown_alike i r e h l srt frame index = rw ((demand3 s k t).call_kept i r e h l (on srt i _) refl) refl
  shown_alike i r e h l pat frame index = rw ((demand3 s k t).call_kept i r e h l (on pat i _) refl) refl

  shows_alike : (p : Player) → Ready p → (index : ℕ) → picture (front k s t) p index ≡ picture s p index
  shows_alike p h index = go p.entry refl
    where
      go : (o : Option ℕ) → p.entry ≡ o → picture (front k s t) p index ≡ picture s p index
      go none q = picture_early (front k s t) p q index ∙ sym (picture_early s p q index)
      go (some i) q = by (h i q) (section_kind s) refl
        where
          by : (r : ℕ) × (e : EntryRecord) × (answer (check i) s ≡ accepted r e) × (r ≤ k) → (o : Outcome Kind) → section_kind s ≡ o → picture (front k s t) p index ≡ picture s p index
          by w (accepted m kd) z =
              pictures (front k s t) p i q m kd ((kind_cut s k t).entry_kept i w.0 w.1 w.2 w.3 ∙ z) index
              ∙ (shown_alike i w.0 w.1 w.2 w.3 kd p.frame index ∙ sym (pictures s p i q m kd z index))
          by w (refused n) z = picture_refused (front k s t) p i q n ((kind_cut s k t).entry_kept i w.0 w.1 w.2 w.3 ∙ z) index ∙ sym (picture_refused s p i q n z index)

  -- ---- before it

  module _ (i r : ℕ) (e : EntryRecord) (h : answer (check i) s ≡ accepted r e) (l : k < r) (p : Player) (q : p.entry ≡ some i) (index : ℕ) where
    shown_short : (kd : Kind) → section_kind s ≡ accepted 4 kd → shown_of kd i p.frame index (take k s) ≡ denied 2
    shown_short jnt z = rw ((kinds s).short jnt z i r e h k l _) refl
    shown_short srt z = rw ((kinds s).short srt z i r e h k l _) refl
    shown_short pat z = rw ((kinds s).short pat z i r e h k l _) refl

    -- the front's stamp is the section's, or cut
    stamp_short : (kd : Kind) → section_kind s ≡ accepted 4 kd → picture (take k s) p index ≡ denied 2
    stamp_short kd z =
        ⊎_elim
        (λ (a : 4 ≤ k).
        let there = subst (λ (x : List ℕ). section_kind x ≡ accepted 4 kd) (append-nil (take k s)) ((kind_cut s k []).kept 4 kd z a) in
        pictures (take k s) p i q 4 kd there index ∙ shown_short kd z)
        (λ (b : k < 4). picture_refused (take k s) p i q 2 ((kind_cut s k []).short 4 kd z b) index)
        (le_or_lt 4 k)

    too_short : picture (take k s) p index ≡ denied 2
    too_short = go (section_kind s) refl
      where
        go : (o : Outcome Kind) → section_kind s ≡ o → picture (take k s) p index ≡ denied 2
        go (accepted m kd) z = stamp_short kd (z ∙ ap (λ (x : ℕ). accepted x kd) ((kinds s).told_by m kd z))
        go (refused n) z = let w = (kinds s).no_kind n z (check i) in let y : ◌≡◌ {A = ℕ} 0 1 = cc in absurd (omega arith)

  -- ---- what the front refuses

  event_stays : (p : Player) (e : Event) (n : ℕ) → step (take k s) p e ≡ denied n → (n ≡ 2 → ⊥) → step (front k s t) p e ≡ denied n
  event_stays p (pick i) n h d = pick_refused (front k s t) p i n ((demand3 s k t).refusal_stays (check i) n (((refusals (take k s) p).pick_refused i n).0 h) d)
  event_stays p tick n h d = go p.entry refl
    where
      go : (o : Option ℕ) → p.entry ≡ o → step (front k s t) p tick ≡ denied n
      go none q = tick_early (front k s t) p q ∙ (sym (tick_early (take k s) p q) ∙ h)
      go (some i) q = tick_refused (front k s t) p i q n ((demand3 s k t).refusal_stays (check i) n (((refusals (take k s) p).tick_refused i q n).0 h) d)
  event_stays p (set mode) n h d = absurd ((refusals (take k s) p).mode_set mode n h)

  -- a kind that the front has is the kind whatever follows
  kind_stays : (m : ℕ) (kd : Kind) → section_kind (take k s) ≡ accepted m kd → section_kind (front k s t) ≡ accepted m kd
  kind_stays m kd z =
      let twice : take k (take k s) ≡ take k s = take-take k k s (omega arith) in
      ⊎_elim
      (λ (a : m ≤ k). subst (λ (x : List ℕ). section_kind (x ++ t) ≡ accepted m kd) twice ((kind_cut (take k s) k t).kept m kd z a))
      (λ (b : k < m).
      let c = subst (λ (x : List ℕ). section_kind x ≡ refused 2) twice ((kind_cut (take k s) k t).short m kd z b) in
      let y : ◌≡◌ {A = ℕ} 0 1 = cc in
      absurd (omega arith))
      (le_or_lt m k)

  shown_stays : (kd : Kind) (i frame index n : ℕ) → shown_of kd i frame index (take k s) ≡ denied n → (n ≡ 2 → ⊥) → shown_of kd i frame index (front k s t) ≡ denied n
  shown_stays jnt i frame index n h d = rw ((demand3 s k t).refusal_stays _ n (refused_alone _ _ n h) d) refl
  shown_stays srt i frame index n h d = rw ((demand3 s k t).refusal_stays _ n (refused_alone _ _ n h) d) refl
  shown_stays pat i frame index n h d = rw ((demand3 s k t).refusal_stays _ n (refused_alone _ _ n h) d) refl

  picture_stays : (p : Player) (index n : ℕ) → picture (take k s) p index ≡ denied n → (n ≡ 2 → ⊥) → picture (front k s t) p index ≡ denied n
  picture_stays p index n h d = go p.entry refl
    where
      go : (o : Option ℕ) → p.entry ≡ o → picture (front k s t) p index ≡ denied n
      go none q = picture_early (front k s t) p q index ∙ (sym (picture_early (take k s) p q index) ∙ h)
      go (some i) q = by (section_kind (take k s)) refl
        where
          by : (o : Outcome Kind) → section_kind (take k s) ≡ o → picture (front k s t) p index ≡ denied n
          by (accepted m kd) z =
              pictures (front k s t) p i q m kd (kind_stays m kd z) index
              ∙ shown_stays kd i p.frame index n (sym (pictures (take k s) p i q m kd z index) ∙ h) d
          by (refused m) z =
              let w = picture_refused (take k s) p i q m z index in
              let y : m ≡ n = cc in
              picture_refused (front k s t) p i q n ((kind_cut s k t).refusal_stays n (z ∙ ap refused y) d) index

pub cuts : (s : List ℕ) (k : ℕ) (t : List ℕ) → Cuts s k t
cuts s k t =
    record {
      stands_alike = λ es a. (plays_alike s k t new early es a).0;
      moves_alike = λ es a e b. moved_alike s k t (play s new es) (plays_alike s k t new early es a).1 e b;
      shows_alike = λ es a index. shows_alike s k t (play s new es) (plays_alike s k t new early es a).1 index;
      pick_short = λ i r e h l p. pick_refused (take k s) p i 2 ((demand3 s k t).entry_short i r e h l);
      tick_short = λ i r e h l p q. tick_refused (take k s) p i q 2 ((demand3 s k t).entry_short i r e h l);
      picture_short = too_short s k t;
      event_stays = event_stays s k t;
      picture_stays = picture_stays s k t;
    }
  where
    -- a new player has no entry
    early : (i : ℕ) → new.entry ≡ some i → (r : ℕ) × (e : EntryRecord) × (answer (check i) s ≡ accepted r e) × (r ≤ k)
    early i z = let y : ◌≡◌ {A = ℕ} 0 1 = cc in absurd (omega arith)
