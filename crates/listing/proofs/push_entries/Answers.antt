use Prim.Native.Nat.{ℕ}
use mathlib.Core.Path.{sym, ◌∙◌}
use native.Mathlib.Omega.{arith}
use Rattle.nitro.specs.ContainerCode.{kind_means}
use Rattle.text.proofs.WritesLaws.{pushed_none, pushed_on}
use Rattle.listing.specs.Listing.{entries_from}
use Rattle.listing.proofs.SectionLaws.{entries_more, all_entries}
use Rattle.listing.proofs.TotalsLaws.{totals_none, totals_next, totals_few, totals_all}
use Rattle.listing.proofs.push_entries.Goals as goal

pub loop-i-init : goal.loop-i-init
unfolding entries_from
loop-i-init c = (omega arith, sym (totals_none _), sym (pushed_none _))

pub add_check-totals-requires : goal.add_check-totals-requires
add_check-totals-requires c =
    let a = c.args in
    totals_few a.s.now (λ (i : ℕ). omega (arith, c.type_inv.s i)) c.loop-i.i c.loop-i.totals c.check-found.result (omega arith) c.loop-i.invariant.1 c.check-found.ensures

pub loop-i-preserved : goal.loop-i-preserved
loop-i-preserved c =
    let a = c.args in (
      omega arith,
      c.add_check-totals.ensures ∙ totals_next a.s.now c.loop-i.i _ _ c.loop-i.invariant.1 c.check-found.ensures,
      rw (c.push_entry.ensures, c.loop-i.invariant.2) (entries_more (kind_means a.kind) a.s.now a.names a.count a.text.now c.loop-i.i c.loop-i-test.true),
    )

pub returns : goal.returns
returns c =
    let a = c.args in
    let e = all_entries (kind_means a.kind) a.s.now a.names a.count c.loop-i.i c.loop-i.invariant.0 c.loop-i-test.false in
    let t = totals_all a.s.now c.loop-i.i a.count c.loop-i.totals c.loop-i.invariant.0 c.loop-i-test.false c.loop-i.invariant.1 in
    rw (c.push_totals.ensures, c.loop-i.invariant.2, e, t) (pushed_on _ _ _)
