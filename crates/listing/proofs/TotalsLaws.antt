-- The totals, as the code adds them up. Assumes nothing.
use Prim.Native.Nat.{ℕ, zero, suc, ◌+◌, ◌*◌, ◌≤◌, ◌<◌}
use mathlib.Core.List.{List}
use mathlib.Core.Path.{◌≡◌, refl, sym, ap, subst, ◌∙◌}
use native.Mathlib.Nat.{add-zero}
use native.Mathlib.Numerals.{add-one}
use native.Mathlib.Omega.{arith}
use Rattle.util.specs.Reader.{Outcome, accepted, refused}
use Rattle.util.specs.Sums.{sum_to}
use Rattle.util.proofs.All.{Bytes}
use Rattle.util.proofs.SumsLaws.{entry_bound}
use Rattle.nitro.specs.declared.entry.Checked.{Checked}
use Rattle.std.specs.Prelude.{Result, Ok, Err}
use Rattle.util.specs.declared.refusal.Refusal.{Refusal}
use Rattle.nitro.specs.Container.{EntryRecord}
use Rattle.nitro.specs.EntryCode.{check_means}
use Rattle.calls.specs.Calls.{check, answer}
use Rattle.calls.specs.Samples.{adds}
use Rattle.calls.proofs.Samples.{check_few}
use Rattle.listing.specs.declared.Totals.{Totals}
use Rattle.listing.specs.Listing.{total_lines, refusals, accepted_in, refused_in, samples_in}
use Rattle.listing.specs.SectionCode.{totals_with, FewTotals}

-- one check more
pub add_refused : (t : Totals) (n : Refusal) → record { accepted = t.accepted; refused = t.refused + 1; samples = t.samples } ≡ totals_with t (check_means (Err n))
add_refused t n = rw (add-zero t.accepted, add-zero t.samples) refl

pub add_accepted : (t : Totals) (e : Checked) → record { accepted = t.accepted + 1; refused = t.refused; samples = t.samples + e.samples } ≡ totals_with t (check_means (Ok e))
add_accepted t e = rw (add-zero t.refused) refl

module _ (s : List ℕ) where
  -- of the first n entries
  abbrev pub totals_in : ℕ → Totals
  totals_in n = record { accepted = accepted_in s n; refused = refused_in s n; samples = samples_in s n }

  pub totals_none : totals_in 0 ≡ record { accepted = 0; refused = 0; samples = 0 }
  unfolding sum_to
  totals_none = refl

  pub totals_next : (i : ℕ) (t : Totals) (o : Outcome EntryRecord) → t ≡ totals_in i → o ≡ answer (check i) s → totals_with t o ≡ totals_in (i + 1)
  unfolding sum_to
  totals_next i t o p q = rw (p, q, add-one i) refl

  -- each entry is accepted or refused
  pub all_counted : (n : ℕ) → accepted_in s n + refused_in s n ≡ n
  unfolding sum_to
  all_counted zero = refl
  all_counted (suc n) = let h = all_counted n in let k = one (answer (check n) s) in omega arith
    where
      one : (o : Outcome EntryRecord) → adds (λ _. 1) o + refusals o ≡ 1
      one (accepted m e) = refl
      one (refused n) = refl

  module _ (b : Bytes s) where
    one_few : (i : ℕ) (o : Outcome EntryRecord) → answer (check i) s ≡ o → adds (λ e. e.samples) o ≤ entry_bound
    one_few i (accepted m e) q = let h = check_few s b i m e q in omega arith
    one_few i (refused n) q = omega arith

    samples_few : (n : ℕ) → samples_in s n ≤ entry_bound * n
    unfolding sum_to
    samples_few zero = omega arith
    samples_few (suc n) = let h = samples_few n in let k = one_few n (answer (check n) s) refl in omega arith

    -- with at most 255 entries no sum wraps
    pub totals_few : (i : ℕ) (t : Totals) (found : Result Checked Refusal) → i < 256 → t ≡ totals_in i → check_means found ≡ answer (check i) s → FewTotals t found
    totals_few i t found l p q =
        let c = all_counted i in
        let h = samples_few i in
        let k = subst (λ (o : Outcome EntryRecord). adds (λ e. e.samples) o ≤ entry_bound) (sym q) (one_few i (answer (check i) s) refl) in
        let a = ap (λ (x : Totals). x.accepted) p in
        let r = ap (λ (x : Totals). x.refused) p in
        let v = ap (λ (x : Totals). x.samples) p in
        (omega arith, omega arith, omega arith)

  -- the totals of all entries
  pub totals_all : (i n : ℕ) (t : Totals) → i ≤ n → n ≤ i → t ≡ totals_in i → total_lines t.accepted t.refused t.samples ≡ total_lines (accepted_in s n) (refused_in s n) (samples_in s n)
  totals_all i n t l h p =
      let q : i ≡ n = omega arith in
      ap (λ (x : Totals). total_lines x.accepted x.refused x.samples) (p ∙ ap totals_in q)
