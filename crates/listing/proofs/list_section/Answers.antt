use Rattle.std.proofs.Common.{rules}
use Prim.Native.Nat.{ℕ}
use mathlib.Core.Path.{◌≡◌, ◌∙◌}
use native.Mathlib.Omega.{arith}
use Rattle.text.specs.WritesCode.{pushed}
use Rattle.text.proofs.WritesLaws.{all_of_it}
use Rattle.listing.specs.Listing.{listing}
use Rattle.listing.proofs.Fits.{listing_fits}
use Rattle.listing.proofs.SectionLaws.{form_first}
use Rattle.listing.proofs.list_section.Goals as goal

-- `listing::list_section` meets its contract. Assumes nothing.
pub returns : goal.returns
returns c =
    let s = c.args.s.now in
    let f = listing_fits s (λ (i : ℕ). omega (arith, c.type_inv.s i)) in
    let e : c.push_body.new.text ≡ pushed c.new-text.result (listing s) = rw (c.push_body.ensures, c.push_decimal_line.ensures) (form_first c.new-text.result s) in
    let w = all_of_it _ _ (listing s) c.new-text.ensures.len f e in
    (c.len.ensures ∙ w.0, rw (← c.new-text.ensures.bytes) (search (rules, w)), omega arith)
