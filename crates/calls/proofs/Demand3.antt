-- Demand 3 holds of every call. Assumes nothing.
use Prim.Native.Nat.{ℕ, ◌≤◌, ◌<◌}
use mathlib.Core.List.{List, [], ◌∷◌}
use mathlib.Core.Logic.{⊎_elim}
use mathlib.Core.Option.{Option}
use mathlib.Core.Path.{◌≡◌, refl, sym, ap, subst, ◌∙◌}
use native.Mathlib.Omega.{arith}
use lib.ListN.{length, take, length-append, length-take}
use Rattle.util.specs.Reader.{done, accepted, refused, run, bind, answered, denied}
use Rattle.util.specs.Place.{front}
use Rattle.util.proofs.Cut as util_cut
use Rattle.util.proofs.Cut.{had, grows, same_part}
use Rattle.util.proofs.Calls.{accepted_first, answered_alike}
use Rattle.util.proofs.ReadsLaws.{goes_on, stops}
use Rattle.info_block.specs.Name.{Name, earliest}
use Rattle.nitro.specs.Container.{Kind, stamp_of, all_kinds, kind_of, stamped, section, Entry, entry_in, entry, EntryRecord, record_of, entry_of}
use Rattle.nitro.proofs.ContainerLaws.{own_stamp, taken, own, stamp_of_lem, stamp_taken, stamp_refused}
use Rattle.calls.specs.Calls.{Call, check, find, on, Answer, ask, reader, answer}
use Rattle.calls.specs.Demand3.{On, Demand3}
use Rattle.calls.proofs.CallsLaws.{find_earliest}

-- what an accepted entry says of its section: the stamp's kind, and the entry read whole behind it
pub record Whole (s : List ℕ) (i r : ℕ) : Type 0 where
  kind : Kind
  held : Entry kind
  room : 4 ≤ length s
  stamp : kind_of all_kinds (take 4 s) ≡ answered kind
  read : run (entry kind i) s 4 ≡ accepted r held
  far : 4 ≤ r

pub whole : (s : List ℕ) (i r : ℕ) (e : EntryRecord) → answer (check i) s ≡ accepted r e → Whole s i r
unfolding answer reader stamped run
whole s i r e h =
    let w = accepted_first (stamped all_kinds) (λ k. bind (entry k i) (λ x. done (record_of k x))) s 0 r e h in
    let p = stamp_of_lem s w.0 w.1 w.2 in
    let v = accepted_first (entry w.1 i) (λ x. done (record_of w.1 x)) s w.0 r e w.3 in
    let j : w.0 ≡ 4 = sym p.2 in
    let l : v.0 ≡ r = cc in
    let z : run (entry w.1 i) s 4 ≡ accepted r v.1 = subst (λ (m : ℕ). run (entry w.1 i) s m ≡ accepted r v.1) j (v.2 ∙ ap (λ (m : ℕ). accepted m v.1) l) in
    record { kind = w.1; held = v.1; room = p.0; stamp = p.1; read = z; far = grows (entry w.1 i) s 4 r v.1 z }

module _ (s : List ℕ) (i r : ℕ) (w : Whole s i r) where
  -- a call of another kind refuses any section with that stamp
  other_kind : (s' : List ℕ) → 4 ≤ length s' → take 4 s' ≡ take 4 s → (k : Kind) → kind_of (k ∷ []) (take 4 s) ≡ denied 1 → run (entry_of k i) s' 0 ≡ refused 1
  unfolding entry_of
  other_kind s' l e k d = stops (stamped (k ∷ [])) (λ _. entry k i) s' 0 1 (stamp_refused s' l k (ap (kind_of (k ∷ [])) e ∙ d))

  -- the entry, with its own stamp
  own_kind : kind_of (w.kind ∷ []) (take 4 s) ≡ answered w.kind → run (entry_of w.kind i) s 0 ≡ accepted r w.held
  unfolding entry_of
  own_kind a = goes_on (stamped (w.kind ∷ [])) (λ _. entry w.kind i) s 0 4 w.kind (stamp_taken s w.room w.kind a) ∙ w.read

  -- a call that takes the stamp reads it
  pub own_read : (kd : Kind) → take 4 s ≡ stamp_of kd → (e : Entry kd) × (run (entry_of kd i) s 0 ≡ accepted r e)
  own_read kd z =
      ⊎_elim
      (λ (a : (w.kind ≡ kd) × (kind_of (kd ∷ []) (take 4 s) ≡ answered kd)).
      subst (λ (x : Kind). kind_of (x ∷ []) (take 4 s) ≡ answered x → (e : Entry x) × (run (entry_of x i) s 0 ≡ accepted r e)) a.0 (λ o. (w.held, own_kind o)) a.1)
      (λ (d : kind_of (kd ∷ []) (take 4 s) ≡ denied 1).
      let o = ap (kind_of (kd ∷ [])) z ∙ own (stamp_of kd) kd (own_stamp kd) in
      let y : ◌≡◌ {A = ℕ} 0 1 = cc in
      absurd (omega arith))
      (taken (take 4 s) w.kind kd w.stamp)

  module _ (k : ℕ) where
    -- from the reach on, what a call of some kind reads of the entry is what it reads of the uncut section, whatever follows
    pub entry_kept : (t : List ℕ) → r ≤ k → (kd : Kind) → run (entry_of kd i) (front k s t) 0 ≡ run (entry_of kd i) s 0
    entry_kept t h kd =
        let b = w.far in
        let room : 4 ≤ length (front k s t) = let a = w.room in simp (length-append, length-take) (omega arith) in
        let stamp : take 4 (front k s t) ≡ take 4 s = same_part 0 4 k s t w.room (omega arith) in
        ⊎_elim
        (λ (a : (w.kind ≡ kd) × (kind_of (kd ∷ []) (take 4 s) ≡ answered kd)).
        subst (λ (x : Kind). kind_of (x ∷ []) (take 4 s) ≡ answered x → run (entry_of x i) (front k s t) 0 ≡ run (entry_of x i) s 0) a.0
        (λ o. util_cut.kept (entry_of w.kind i) s 0 r w.held (own_kind o) k t h ∙ sym (own_kind o))
        a.1)
        (λ (d : kind_of (kd ∷ []) (take 4 s) ≡ denied 1). other_kind (front k s t) room stamp kd d ∙ sym (other_kind s w.room refl kd d))
        (taken (take 4 s) w.kind kd w.stamp)

    -- before it the front is too short for a call that takes the stamp
    pub entry_short : k < r → (kd : Kind) → (run (entry_of kd i) s 0 ≡ refused 1 → ⊥) → run (entry_of kd i) (take k s) 0 ≡ refused 2
    entry_short h kd n =
        ⊎_elim
        (λ (a : (w.kind ≡ kd) × (kind_of (kd ∷ []) (take 4 s) ≡ answered kd)).
        subst (λ (x : Kind). kind_of (x ∷ []) (take 4 s) ≡ answered x → run (entry_of x i) (take k s) 0 ≡ refused 2) a.0
        (λ o. util_cut.cut (entry_of w.kind i) s 0 r w.held (own_kind o) k (omega arith) h)
        a.1)
        (λ (d : kind_of (kd ∷ []) (take 4 s) ≡ denied 1). absurd (n (other_kind s w.room refl kd d)))
        (taken (take 4 s) w.kind kd w.stamp)

-- the kind is told by the stamp, which every entry of it has read too
kind_within : (s : List ℕ) (i r : ℕ) (w : Whole s i r) → run (stamped all_kinds) s 0 ≡ accepted 4 w.kind
unfolding stamped run
kind_within s i r w = had _ _ _ _ w.room (rw w.stamp refl)

pub kind_held : (s : List ℕ) (i r : ℕ) (e : EntryRecord) → answer (check i) s ≡ accepted r e → (kd : Kind) × (run (stamped all_kinds) s 0 ≡ accepted 4 kd) × (4 ≤ r)
kind_held s i r e h = let w = whole s i r e h in let f = w.far in (w.kind, kind_within s i r w, omega arith)

-- .. and finding reads the section's header and info block
found_within : (s : List ℕ) (i r : ℕ) → Whole s i r → (name : Name) → (j : ℕ) × (o : Option ℕ) × (answer (find name) s ≡ accepted j o) × (j ≤ r)
unfolding answer reader entry
found_within s i r w name =
    let b = accepted_first section (entry_in w.kind i) s 4 r w.held w.read in
    let g = grows (entry_in w.kind i b.1) s b.0 r w.held b.3 in (
      b.0,
      earliest name b.1.names,
      find_earliest s name w.kind (kind_within s i r w) b.0 b.1 b.2,
      g,
    )

pub demand3 : (s : List ℕ) (k : ℕ) (t : List ℕ) → Demand3 s k t
demand3 s k t =
    record {
      entry_kept = λ i r e h l. kept (check i) r e h l;
      entry_short = λ i r e h l. short (check i) r e h l;
      call_kept = on_kept;
      find_kept = find_kept;
      call_short = on_short;
      refusal_stays = stays;
      answer_kept = kept;
      answer_short = short;
    }
  where
    kept : (c : Call) (r : ℕ) (a : Answer c) → answer c s ≡ accepted r a → r ≤ k → answer c (front k s t) ≡ accepted r a
    kept c r a h l = unfold answer in util_cut.kept (reader c) s 0 r a h k t l

    short : (c : Call) (r : ℕ) (a : Answer c) → answer c s ≡ accepted r a → k < r → answer c (take k s) ≡ refused 2
    short c r a h l = unfold answer in util_cut.cut (reader c) s 0 r a h k (omega arith) l

    stays : (c : Call) (n : ℕ) → answer c (take k s) ≡ refused n → (n ≡ 2 → ⊥) → answer c (front k s t) ≡ refused n
    stays c n h d = unfold answer in util_cut.stays (reader c) (take k s) 0 n h d t

    find_kept : (i r : ℕ) (e : EntryRecord) → answer (check i) s ≡ accepted r e → r ≤ k → (name : Name) → answer (find name) (front k s t) ≡ answer (find name) s
    find_kept i r e h l name =
        let f = found_within s i r (whole s i r e h) name in
        kept (find name) f.0 f.1 f.2 (omega arith) ∙ sym f.2

    on_kept : (i r : ℕ) (e : EntryRecord) → answer (check i) s ≡ accepted r e → r ≤ k → (c : Call) → On i c → answer c (front k s t) ≡ answer c s
    on_kept i r e h l (check j) o = subst (λ (x : ℕ). answer (check x) (front k s t) ≡ answer (check x) s) o (kept (check i) r e h l ∙ sym h)
    on_kept i r e h l (find name) o = absurd o
    on_kept i r e h l (on kd j q) o =
        subst (λ (x : ℕ). answer (on kd x q) (front k s t) ≡ answer (on kd x q) s) o
        (unfold answer reader in answered_alike (entry_of kd i) (ask q) s (front k s t) 0 (entry_kept s i r (whole s i r e h) k t l kd))

    on_short : (i r : ℕ) (e : EntryRecord) → answer (check i) s ≡ accepted r e → k < r → (c : Call) → On i c → (answer c s ≡ refused 1 → ⊥) → answer c (take k s) ≡ refused 2
    on_short i r e h l (check j) o n = subst (λ (x : ℕ). answer (check x) (take k s) ≡ refused 2) o (short (check i) r e h l)
    on_short i r e h l (find name) o n = absurd o
    on_short i r e h l (on kd j q) o n =
        subst (λ (x : ℕ). (answer (on kd x q) s ≡ refused 1 → ⊥) → answer (on kd x q) (take k s) ≡ refused 2) o
        (λ n. unfold answer reader in stops _ _ (take k s) 0 2 (entry_short s i r (whole s i r e h) k l kd (λ d. n (stops _ _ s 0 1 d))))
        n
