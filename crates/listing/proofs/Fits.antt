-- No listing is longer than the array that it is written into. Assumes nothing.
use Prim.Native.Nat.{ℕ, suc, ◌+◌, ◌*◌, ◌≤◌, ◌<◌}
use Prim.Native.String.{String}
use mathlib.Core.List.{List, [], ◌∷◌, ◌++◌}
use mathlib.Core.Path.{◌≡◌, refl, ap, subst}
use native.Mathlib.Omega.{arith}
use borrow.Author.Tests.{lt-ltb, le-ltb}
use lib.ListN.{length, length-append}
use Rattle.std.proofs.Common.{inl, inr}
use Rattle.std.proofs.lemmas.Bool.{cases_lt}
use Rattle.std.proofs.lemmas.Grind.{common_steps}
use Rattle.util.specs.Reader.{done, Outcome, accepted, refused, run}
use Rattle.util.proofs.All.{Bytes, Each}
use Rattle.util.proofs.Calls.{accepted_first}
use Rattle.util.proofs.ReadsLaws.{done_is}
use Rattle.nitro.specs.Container.{Kind, jnt, srt, pat, all_kinds, stamped, section, EntryRecord}
use Rattle.calls.specs.Calls.{check, answer}
use Rattle.text.specs.Text.{ascii, decimal, hex, line}
use Rattle.text.proofs.LengthsLaws.{length-digits, decimal_short, length-hex, length-line}
use Rattle.info_block.specs.InfoBlock.{Block, info_block}
use Rattle.info_block.proofs.InfoBlockLaws.{Even, block_even}
use Rattle.info_block.proofs.BytesLaws.{block_bytes_lem}
use Rattle.info_block.specs.Name.{Name}
use Rattle.listing.specs.SectionCode.{header_from}
use Rattle.listing.specs.Listing.{stamp_text, object_digits, count_line, outcome_lines, entry_lines, entries_from, total_lines, accepted_in, refused_in, samples_in, Header, header, entry_listing, section_lines, body, form_line, listing, Fits}

short : (x y : List ℕ) {m n : ℕ} → length x ≤ m → length y ≤ n → length (x ++ y) ≤ m + n
short x y h k = omega (arith, length-append x y)

-- a line of a number has at most 38 bytes, as has that of a name
line_short : (key : String) (n : ℕ) → length (ascii key) ≤ 16 → length (line key (decimal n)) ≤ 38
line_short key n h = omega (arith, length-line key (decimal n), decimal_short n)

count_short : (k : Kind) (n : ℕ) → length (count_line k n) ≤ 38
count_short jnt n = omega (arith, length-line "objects" (object_digits n), length-digits 3 n)
count_short srt n = line_short "tracks" n (omega arith)
count_short pat n = line_short "tracks" n (omega arith)

outcome_short : (k : Kind) (o : Outcome EntryRecord) → length (outcome_lines k o) ≤ 152
unfolding outcome_lines
outcome_short k (accepted m e) =
    let a = line_short "answer" 0 (omega arith) in
    let b = line_short "reach" m (omega arith) in
    let c = line_short "frames" e.frames (omega arith) in
    short (line "answer" (decimal 0) ++ line "reach" (decimal m) ++ line "frames" (decimal e.frames)) (count_line k e.count)
    (short (line "answer" (decimal 0) ++ line "reach" (decimal m)) (line "frames" (decimal e.frames)) (short (line "answer" (decimal 0)) (line "reach" (decimal m)) a b) c)
    (count_short k e.count)
outcome_short k (refused n) = let a = line_short "answer" n (omega arith) in omega arith

entry_short : (k : Kind) (s : List ℕ) (i : ℕ) (name : Name) → length name ≤ 16 → length (entry_lines k s i name) ≤ 228
unfolding entry_lines
entry_short k s i name h =
    let a = line_short "entry" i (omega arith) in
    let b : length (line "name" (hex name)) ≤ 38 = omega (arith, length-line "name" (hex name), length-hex name) in
    short (line "entry" (decimal i) ++ line "name" (hex name)) (outcome_lines k (answer (check i) s))
    (short (line "entry" (decimal i)) (line "name" (hex name)) a b) (outcome_short k (answer (check i) s))

entries_short : (k : Kind) (s : List ℕ) (i : ℕ) (names : List Name) → Each (λ x. length x ≡ 16) names → length (entries_from k s i names) ≤ 228 * length names
unfolding entries_from
entries_short k s i [] h = omega arith
entries_short k s i (name ∷ names) h =
    let a = entry_short k s i name (let e = h.0 in omega arith) in
    let b = entries_short k s (suc i) names h.1 in
    omega (arith, short (entry_lines k s i name) (entries_from k s (suc i) names) a b)

totals_short : (a r t : ℕ) → length (total_lines a r t) ≤ 114
totals_short a r t =
    let x = line_short "accepted" a (omega arith) in
    let y = line_short "refused" r (omega arith) in
    let z = line_short "samples" t (omega arith) in
    short (line "accepted" (decimal a) ++ line "refused" (decimal r)) (line "samples" (decimal t)) (short (line "accepted" (decimal a)) (line "refused" (decimal r)) x y) z

stamp_short : (k : Kind) → length (line "section" (ascii (stamp_text k))) ≤ 38
stamp_short jnt = omega arith
stamp_short srt = omega arith
stamp_short pat = omega arith

-- at most 255 entries
section_short : (s : List ℕ) (m : ℕ) (h : Header) → h.block.count < 256 → Even 4 h.block → length (section_lines s (accepted m h)) ≤ 58330
unfolding section_lines entry_listing
section_short s m h few even =
    let n = h.block.count in
    let above = short (line "section" (ascii (stamp_text h.kind))) (line "entries" (decimal n)) (stamp_short h.kind) (line_short "entries" n (omega arith)) in
    let c = even.names in
    let e : length (entries_from h.kind s 0 h.block.names) ≤ 58140 = omega (arith, entries_short h.kind s 0 h.block.names even.sixteen) in
    short (line "section" (ascii (stamp_text h.kind)) ++ line "entries" (decimal n) ++ entries_from h.kind s 0 h.block.names) (total_lines (accepted_in s n) (refused_in s n) (samples_in s n))
    (short (line "section" (ascii (stamp_text h.kind)) ++ line "entries" (decimal n)) (entries_from h.kind s 0 h.block.names) above e)
    (totals_short (accepted_in s n) (refused_in s n) (samples_in s n))

header_short : (s : List ℕ) → Bytes s → (o : Outcome Header) → run header s 0 ≡ o → length (section_lines s o) ≤ 58330
unfolding section_lines header section
header_short s h (refused n) e = let a = line_short "answer" n (omega arith) in omega arith
header_short s h (accepted m x) e =
    let w = accepted_first (stamped all_kinds) header_from s 0 m x e in
    let v = accepted_first section (λ b. done (record { kind = w.1; block = b })) s w.0 m x w.3 in
    let u = accepted_first _ (λ _. info_block 8 4) s w.0 v.0 v.1 v.2 in
    let k : v.1 ≡ x.block = ap (λ (y : Header). y.block) (done_is _ s v.0 m x v.3) in
    let few = (block_bytes_lem 8 4 s h u.0 v.0 v.1 u.3).0 in
    section_short s m x (subst (λ (b : Block). b.count < 256) k few) (subst (Even 4) k (block_even 8 4 s u.0 v.0 v.1 u.3))

body_short : (s : List ℕ) → Bytes s → length (body s) ≤ 58330
unfolding body
body_short s h =
    elim (cases_lt 65536 (length s)) [
      | inl l ↦ rw (lt-ltb 65536 (length s) l) (let a = line_short "answer" 13 (omega arith) in omega arith)
      | inr l ↦ rw (le-ltb 65536 (length s) l) (header_short s h (run header s 0) refl)
    ]

pub listing_fits : (s : List ℕ) → Bytes s → Fits s
unfolding listing
listing_fits s h = grind (arith, common_steps, line_short "listing" 2 (omega arith), body_short s h, length-append form_line (body s))
