use Prim.Native.Nat.{◌-◌, ◌≤◌}
use mathlib.Core.Path.{◌≡◌}
use lib.ListN.{take, drop}
use Rattle.util.specs.View.{view}
use Rattle.nitro.specs.ContainerCode.{kind_means}
use Rattle.text.specs.WritesCode.{pushed}
use Rattle.listing.specs.Listing.{entries_from}
use Rattle.listing.proofs.TotalsLaws.{totals_in}
use Rattle.listing.proofs.push_entries.Given as goal

-- `listing::push_entries` meets its contract. Assumes nothing.
abbrev pub invariant-loop-i : goal.invariant-loop-i
invariant-loop-i l = (l.i ≤ l.count) × (l.totals ≡ totals_in l.s l.i) × (l.text ≡ pushed l.initial.text (entries_from (kind_means l.kind) l.s 0 (take l.i (view 16 (λ bs. bs) l.count (drop l.names l.s)))))

abbrev pub decreases-loop-i : goal.decreases-loop-i
decreases-loop-i l = l.count - l.i
