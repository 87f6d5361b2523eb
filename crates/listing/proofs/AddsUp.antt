-- The totals under a listing are what a caller finds who adds up the answers of the calls. Assumes nothing.
use Prim.Native.Nat.{ℕ, ◌≤◌}
use mathlib.Core.Bool.{Bool, cond}
use mathlib.Core.List.{List}
use mathlib.Core.Path.{◌≡◌, refl, sym, ap}
use native.Mathlib.Omega.{arith}
use borrow.Author.Tests.{le-ltb, ne_eqb}
use lib.Dec.{eqb}
use lib.ListN.{length}
use Rattle.util.specs.Reader.{done, Outcome, accepted, refused, run, number, told}
use Rattle.util.proofs.Calls.{accepted_first}
use Rattle.util.proofs.ReadsLaws.{done_is}
use Rattle.util.proofs.SumsLaws.{sum_alike}
use Rattle.nitro.specs.Container.{Kind, all_kinds, stamped, section, EntryRecord}
use Rattle.nitro.proofs.ContainerLaws.{stamp_of_lem}
use Rattle.calls.specs.Calls.{check, answer}
use Rattle.calls.specs.Samples.{adds, handed_out}
use Rattle.calls.proofs.Samples.{samples_handed, check_number}
use Rattle.listing.specs.Listing.{accepted_in, refused_in, samples_in, Header, header, section_lines, body, listing}
use Rattle.listing.specs.SectionCode.{header_from}
use Rattle.listing.specs.AddsUp.{AddsUp}
use Rattle.listing.proofs.TotalsLaws.{all_counted}

-- a section whose header is accepted has the stamp of its kind
header_stamp : (s : List ℕ) (m : ℕ) (h : Header) → run header s 0 ≡ accepted m h → run (stamped all_kinds) s 0 ≡ accepted 4 h.kind
unfolding header
header_stamp s m h e =
    let w = accepted_first (stamped all_kinds) header_from s 0 m h e in
    let v = accepted_first section (λ b. done (record { kind = w.1; block = b })) s w.0 m h w.3 in
    let k = ap (λ (x : Header). x.kind) (done_is _ s v.0 m h v.3) in
    let j = (stamp_of_lem s w.0 w.1 w.2).2 in
    cc (w.2, j, k)

module _ (s : List ℕ) where
  -- a check that accepts answers 0, and no other does
  zero_accepts : (i : ℕ) (o : Outcome EntryRecord) → answer (check i) s ≡ o → adds (λ _. 1) o ≡ cond (eqb (number (told o)) 0) 1 0
  zero_accepts i (accepted m e) q = refl
  zero_accepts i (refused n) q = let l = check_number s i n q in sym (ap (λ (b : Bool). cond b 1 0) (ne_eqb n 0 (λ z. omega arith)))

  module _ (k : Kind) (stamp : run (stamped all_kinds) s 0 ≡ accepted 4 k) where
    -- what an entry adds to the samples
    sample_sums : (i : ℕ) (o : Outcome EntryRecord) → answer (check i) s ≡ o → adds (λ e. e.samples) o ≡ adds (λ e. handed_out s i k e.count) o
    sample_sums i (accepted m e) q = samples_handed k s i stamp m e q
    sample_sums i (refused n) q = refl

pub adds_up : (s : List ℕ) → length s ≤ 65536 → (m : ℕ) (h : Header) → run header s 0 ≡ accepted m h → AddsUp s h
adds_up s l m h e =
    let n = h.block.count in
    record {
      whole = accepted_in s n;
      damaged = refused_in s n;
      samples = samples_in s n;
      printed = unfold listing body section_lines in rw (le-ltb 65536 (length s) l, e) refl;
      answers_0 = sum_alike n _ _ (λ i _. zero_accepts s i (answer (check i) s) refl);
      all = all_counted s n;
      added = sum_alike n _ _ (λ i _. sample_sums s h.kind (header_stamp s m h e) i (answer (check i) s) refl);
    }
