-- The lines of a section, from what the code finds in it. Assumes nothing.
use Prim.Native.Nat.{ℕ, suc, ◌+◌, ◌*◌, ◌≤◌, ◌<◌}
use mathlib.Core.List.{List, [], ◌∷◌, ◌++◌, append_assoc, append-nil}
use mathlib.Core.Path.{◌≡◌, refl, sym, ap, ◌∙◌}
use native.Mathlib.Nat.{add-zero, zero-add, suc-add, add-suc}
use native.Mathlib.Numerals.{add-one}
use native.Mathlib.Omega.{arith}
use borrow.Author.Tests.{lt-ltb, le-ltb}
use lib.ListN.{length, take, drop, get_or}
use lib.Seq.{take-suc, take_all, length-take-le}
use Rattle.util.specs.View.{view}
use Rattle.util.specs.Reader.{Outcome, accepted, refused, run, done}
use Rattle.util.proofs.Calls.{after, run_bind_as}
use Rattle.util.proofs.ReadsLaws.{goes_on, stops}
use Rattle.util.proofs.ViewLaws.{view-length, view_there}
use Rattle.info_block.specs.declared.InfoBlock.{InfoBlock}
use Rattle.std.specs.Prelude.{Ok}
use Rattle.info_block.specs.Name.{Name}
use Rattle.nitro.specs.Container.{Kind, all_kinds, stamped, section}
use Rattle.nitro.specs.ContainerCode.{HeaderReads}
use Rattle.text.specs.Text.{ascii, decimal, line}
use Rattle.listing.specs.Listing.{stamp_text, entry_lines, entries_from, total_lines, accepted_in, refused_in, samples_in, header, entry_listing, section_lines, body, form_line, listing}
use Rattle.text.specs.declared.Text.{Text}
use Rattle.text.specs.WritesCode.{pushed}
use Rattle.listing.specs.SectionCode.{block_outcome, header_from}
use Rattle.text.proofs.WritesLaws.{pushed_on}

-- the first line, and what stands below it
pub form_first : (t : Text) (s : List ℕ) → pushed (pushed t form_line) (body s) ≡ pushed t (listing s)
unfolding listing
form_first t s = pushed_on t form_line (body s)

-- ---- the entries, one after the other

entries_snoc : (k : Kind) (s : List ℕ) (i : ℕ) (x : List Name) (name : Name) → entries_from k s i (x ++ (name ∷ [])) ≡ entries_from k s i x ++ entry_lines k s (i + length x) name
unfolding entries_from
entries_snoc k s i [] name = rw (add-zero i) (append-nil _)
entries_snoc k s i (n ∷ x) name = rw (entries_snoc k s (suc i) x name, add-suc i (length x), suc-add i (length x)) (simp append_assoc)

module _ (k : Kind) (s : List ℕ) (p count : ℕ) where
  abbrev names : List Name
  names = view 16 (λ bs. bs) count (drop p s)

  names_length : length names ≡ count
  names_length = view-length 16 (λ bs. bs) count (drop p s)

  abbrev name_at : ℕ → Name
  name_at i = take 16 (drop (p + 16 * i) s)

  one_more : (i : ℕ) → i < count → entries_from k s 0 (take (i + 1) names) ≡ entries_from k s 0 (take i names) ++ entry_lines k s i (name_at i)
  one_more i h =
      let n = names_length in
      let e : 0 + length (take i names) ≡ i = zero-add _ ∙ length-take-le i names (omega arith) in
      let f : get_or names i [] ≡ name_at i = view_there 16 (λ bs. bs) count i p s [] h in
      rw (add-one, take-suc names i [] (omega arith), entries_snoc, e, f) refl

  pub entries_more : (t : Text) (i : ℕ) → i < count → pushed (pushed t (entries_from k s 0 (take i names))) (entry_lines k s i (name_at i)) ≡ pushed t (entries_from k s 0 (take (i + 1) names))
  entries_more t i h = rw (one_more i h) (pushed_on t (entries_from k s 0 (take i names)) (entry_lines k s i (name_at i)))

  pub all_entries : (i : ℕ) → i ≤ count → count ≤ i → entries_from k s 0 (take i names) ≡ entries_from k s 0 names
  all_entries i h g = let n = names_length in ap (entries_from k s 0) (take_all i names (omega arith))

-- ---- a section with a stamp

module _ (s : List ℕ) (k : Kind) where
  -- the lines as they are written: the entries and the totals after the first two
  pub block_lines : (b : InfoBlock)
      → (line "section" (ascii (stamp_text k)) ++ line "entries" (decimal b.count)) ++ (entries_from k s 0 (view 16 (λ bs. bs) b.count (drop b.names s)) ++ total_lines (accepted_in s b.count) (refused_in s b.count) (samples_in s b.count))
      ≡ section_lines s (block_outcome s k b)
  unfolding section_lines entry_listing
  block_lines b =
      let n = b.count in
      sym (append_assoc (line "section" (ascii (stamp_text k)) ++ line "entries" (decimal n)) (entries_from k s 0 (view 16 (λ bs. bs) n (drop b.names s))) (total_lines (accepted_in s n) (refused_in s n) (samples_in s n)))

  pub block_refused : (n : ℕ) → run section s 4 ≡ refused n → line "answer" (decimal n) ≡ section_lines s (run (header_from k) s 4)
  unfolding section_lines
  block_refused n e = sym (ap (section_lines s) (stops _ _ _ _ n e))

  pub block_whole : (b : InfoBlock) → HeaderReads s (Ok b) → section_lines s (block_outcome s k b) ≡ section_lines s (run (header_from k) s 4)
  unfolding run section_lines
  block_whole b w = sym (ap (section_lines s) (goes_on section (λ b. done (record { kind = k; block = b })) s 4 _ _ w.reads))

-- ---- all that stands below the first line

pub too_long : (s : List ℕ) → 65536 < length s → line "answer" (decimal 13) ≡ body s
unfolding body
too_long s h = sym (rw (lt-ltb 65536 (length s) h) refl)

module _ (s : List ℕ) (h : length s ≤ 65536) where
  by_stamp : (o : Outcome Kind) → run (stamped all_kinds) s 0 ≡ o → body s ≡ section_lines s (after o (λ j k. run (header_from k) s j))
  unfolding body header
  by_stamp o e = rw (le-ltb 65536 (length s) h) (ap (section_lines s) (run_bind_as (stamped all_kinds) header_from s 0 o e))

  pub no_stamp : (n : ℕ) → run (stamped all_kinds) s 0 ≡ refused n → line "answer" (decimal n) ≡ body s
  unfolding section_lines after
  no_stamp n e = sym (by_stamp (refused n) e)

  pub with_stamp : (k : Kind) → run (stamped all_kinds) s 0 ≡ accepted 4 k → section_lines s (run (header_from k) s 4) ≡ body s
  unfolding after
  with_stamp k e = sym (by_stamp (accepted 4 k) e)
