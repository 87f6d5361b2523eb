-- What the kind says of the other calls. Assumes nothing.
use Prim.Native.Nat.{ℕ, ◌<◌, ◌≤◌}
use mathlib.Core.List.{List, [], ◌∷◌}
use mathlib.Core.Logic.{⊎_elim}
use mathlib.Core.Path.{◌≡◌, sym, ap, ◌∙◌}
use native.Mathlib.Omega.{arith}
use lib.ListN.{take}
use Rattle.util.specs.Reader.{done, accepted, refused, run, answered, denied}
use Rattle.util.proofs.Calls.{accepted_first, refused_first}
use Rattle.util.specs.Place.{front}
use Rattle.util.proofs.Cut.{cut}
use Rattle.util.proofs.Cut as util_cut
use Rattle.util.proofs.ReadsLaws.{stops}
use Rattle.nitro.specs.Container.{Kind, all_kinds, kind_of, stamped, entry, EntryRecord, record_of, entry_of}
use Rattle.nitro.proofs.ContainerLaws.{taken, stamp_of_lem, stamp_refused, stamp_none}
use Rattle.nitro.proofs.EntryLaws.{open_run}
use Rattle.calls.specs.Calls.{Query, Call, check, find, on, reader, answer}
use Rattle.calls.specs.OneAnswer.{Refuses, unstamped, another, checked}
use Rattle.calls.specs.Kinds.{section_kind, Kinds, KindCut}
use Rattle.calls.proofs.Demand3.{kind_held}
use Rattle.calls.proofs.CallsLaws.{check_unstamped, check_stamped, find_unstamped}

-- the entry is refused before anything is asked of it
pub entry_refused : (k : Kind) (s : List ℕ) (i n : ℕ) → Refuses k s i n → run (entry_of k i) s 0 ≡ refused n
unfolding entry_of
entry_refused k s i n (unstamped e) = stops _ _ _ _ n (stamp_none s n e k)
entry_refused k s i n (another other e d q) =
    let w = stamp_of_lem s 4 other e in
    ⊎_elim
    (λ (a : (other ≡ k) × (kind_of (k ∷ []) (take 4 s) ≡ answered k)). absurd (d a.0))
    (λ (x : kind_of (k ∷ []) (take 4 s) ≡ denied 1). stops _ _ _ _ n (stamp_refused s w.0 k x ∙ ap refused (sym q)))
    (taken (take 4 s) other k w.1)
entry_refused k s i n (checked e c) = open_run s i k e ∙ refused_first (entry k i) (record_of k) s 4 n (sym (check_stamped s i k e) ∙ c)

pub kinds : (s : List ℕ) → Kinds s
kinds s = record { told_by = told_by; no_kind = no_kind; refuses = refuses; short = short }
  where
    told_by : (r : ℕ) (k : Kind) → section_kind s ≡ accepted r k → r ≡ 4
    told_by r k e = unfold section_kind in sym (stamp_of_lem s r k e).2

    refuses : (k : Kind) (i n : ℕ) → Refuses k s i n → (q : Query k) → answer (on k i q) s ≡ refused n
    refuses k i n d q = unfold answer reader in stops _ _ _ _ n (entry_refused k s i n d)

    stampless : (n : ℕ) → section_kind s ≡ refused n → run (stamped all_kinds) s 0 ≡ refused n
    stampless n e = unfold section_kind in e

    no_kind : (n : ℕ) → section_kind s ≡ refused n → (c : Call) → answer c s ≡ refused n
    no_kind n e (check i) = unfold answer reader in check_unstamped s i n (stampless n e)
    no_kind n e (find name) = unfold answer reader in find_unstamped s name n (stampless n e)
    no_kind n e (on k i q) = refuses k i n (unstamped (stampless n e)) q

    short : (k : Kind) → section_kind s ≡ accepted 4 k → (i r : ℕ) (e : EntryRecord) → answer (check i) s ≡ accepted r e → (c : ℕ) → c < r → (q : Query k) → answer (on k i q) (take c s) ≡ refused 2
    short k a i r e h c l q =
        unfold answer reader run section_kind in
        let w = accepted_first (entry k i) (λ x. done (record_of k x)) s 4 r e (sym (check_stamped s i k a) ∙ h) in
        let j : w.0 ≡ r = cc in
        stops _ _ _ _ 2 (cut (entry_of k i) s 0 w.0 w.1 (open_run s i k a ∙ w.2) c (omega arith) (omega arith))

pub kind_cut : (s : List ℕ) (k : ℕ) (t : List ℕ) → KindCut s k t
kind_cut s k t = record { entry_kept = entry_kept; kept = kept; short = short; refusal_stays = refusal_stays }
  where
    kept : (r : ℕ) (a : Kind) → section_kind s ≡ accepted r a → r ≤ k → section_kind (front k s t) ≡ accepted r a
    kept r a h l = unfold section_kind in util_cut.kept (stamped all_kinds) s 0 r a h k t l

    short : (r : ℕ) (a : Kind) → section_kind s ≡ accepted r a → k < r → section_kind (take k s) ≡ refused 2
    short r a h l = unfold section_kind in util_cut.cut (stamped all_kinds) s 0 r a h k (omega arith) l

    refusal_stays : (n : ℕ) → section_kind (take k s) ≡ refused n → (n ≡ 2 → ⊥) → section_kind (front k s t) ≡ refused n
    refusal_stays n h d = unfold section_kind in util_cut.stays (stamped all_kinds) (take k s) 0 n h d t

    there : (kd : Kind) → run (stamped all_kinds) s 0 ≡ accepted 4 kd → section_kind s ≡ accepted 4 kd
    there kd a = unfold section_kind in a

    entry_kept : (i r : ℕ) (e : EntryRecord) → answer (check i) s ≡ accepted r e → r ≤ k → section_kind (front k s t) ≡ section_kind s
    entry_kept i r e h l =
        let w = kind_held s i r e h in
        let a = there w.0 w.1 in
        kept 4 w.0 a (omega (arith, w.2)) ∙ sym a
