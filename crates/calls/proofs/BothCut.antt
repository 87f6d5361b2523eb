-- What a cut of both sections leaves of the answer for a material: what it leaves of each entry. Assumes nothing.
use Prim.Native.Nat.{ℕ, ◌≤◌, ◌<◌}
use mathlib.Core.List.{List, ◌++◌}
use mathlib.Core.Path.{◌≡◌, refl, sym, ap, ◌∙◌}
use lib.ListN.{take}
use Rattle.util.specs.Reader.{Outcome, accepted, refused, run, denied, told}
use Rattle.util.specs.Place.{front}
use Rattle.util.proofs.Cut as util_cut
use Rattle.util.proofs.ReadsLaws.{not_both}
use Rattle.info_block.specs.Name.{Name}
use Rattle.nitro.specs.Container.{srt, pat, stamp_of, Entry, entry_of}
use Rattle.calls.specs.Material.{material}
use Rattle.calls.specs.BothCut.{Accepted, BothCut}
use Rattle.calls.proofs.CallsLaws.{together, by_entries}
use Rattle.calls.proofs.Demand3.{whole, entry_kept, entry_short, own_read}

-- ---- what is read of both

module _ (i j : ℕ) (name : Name) (frame : ℕ) where
  -- a refusal other than too short is the first section's, the second's, or comes of what both entries hold
  stays_after : (s t p u : List ℕ) (n : ℕ) (v : Outcome (Entry srt)) (w : Outcome (Entry pat)) → run (entry_of srt i) s 0 ≡ v → run (entry_of pat j) p 0 ≡ w → (n ≡ 2 → ⊥)
      → together name frame (told v) (told w) ≡ denied n → material i j name frame (s ++ t) (p ++ u) ≡ denied n
  stays_after s t p u n (refused k) w e f d q =
      let z : k ≡ n = cc in
      by_entries i j name frame _ _ (refused k) _ (util_cut.stays (entry_of srt i) s 0 k e (λ x. d (sym z ∙ x)) t) refl ∙ ap denied z
  stays_after s t p u n (accepted m a) (refused k) e f d q =
      let z : k ≡ n = cc in
      by_entries i j name frame _ _ (accepted m a) (refused k) (util_cut.follows (entry_of srt i) s t m a e) (util_cut.stays (entry_of pat j) p 0 k f (λ x. d (sym z ∙ x)) u) ∙ ap denied z
  stays_after s t p u n (accepted m a) (accepted k b) e f d q = by_entries i j name frame _ _ (accepted m a) (accepted k b) (util_cut.follows (entry_of srt i) s t m a e) (util_cut.follows (entry_of pat j) p u k b f) ∙ q

-- ---- the theorem

pub both_cut : (s : List ℕ) (k : ℕ) (t p : List ℕ) (l : ℕ) (u : List ℕ) (i j : ℕ) (name : Name) (frame : ℕ) → BothCut s k t p l u i j name frame
both_cut s k t p l u i j name frame =
    record {
      kept = kept;
      srt_short = srt_short;
      pat_short = pat_short;
      stays = λ n e d. stays_after i j name frame (take k s) t (take l p) u n _ _ refl refl d (sym (by_entries i j name frame (take k s) (take l p) _ _ refl refl) ∙ e);
    }
  where
    srt_kept : (r : ℕ) → Accepted s i r → r ≤ k → run (entry_of srt i) (front k s t) 0 ≡ run (entry_of srt i) s 0
    srt_kept r a h = entry_kept s i r (whole s i r a.0 a.1) k t h srt

    kept : (r q : ℕ) → Accepted s i r → Accepted p j q → r ≤ k → q ≤ l → material i j name frame (front k s t) (front l p u) ≡ material i j name frame s p
    kept r q a b h g =
        by_entries i j name frame _ _ _ _ (srt_kept r a h) (entry_kept p j q (whole p j q b.0 b.1) l u g pat) ∙ sym (by_entries i j name frame s p _ _ refl refl)

    srt_short : (r : ℕ) → Accepted s i r → take 4 s ≡ stamp_of srt → k < r → (other : List ℕ) → material i j name frame (take k s) other ≡ denied 2
    srt_short r a z h other = by_entries i j name frame (take k s) other (refused 2) _ (entry_short s i r (whole s i r a.0 a.1) k h srt (not_both (own_read s i r (whole s i r a.0 a.1) srt z).1)) refl

    pat_short : (r q : ℕ) → Accepted s i r → take 4 s ≡ stamp_of srt → r ≤ k → Accepted p j q → take 4 p ≡ stamp_of pat → l < q → material i j name frame (front k s t) (take l p) ≡ denied 2
    pat_short r q a z h b y g =
        let w = whole s i r a.0 a.1 in
        let x = whole p j q b.0 b.1 in
        let e = own_read s i r w srt z in
        by_entries i j name frame (front k s t) (take l p) (accepted r e.0) (refused 2) (srt_kept r a h ∙ e.1) (entry_short p j q x l g pat (not_both (own_read p j q x pat y).1))
