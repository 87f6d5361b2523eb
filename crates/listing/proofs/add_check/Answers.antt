use mathlib.Core.Path.{sym, ap, subst, ◌∙◌}
use native.Mathlib.Omega.{arith}
use Rattle.std.specs.Prelude.{Result}
use Rattle.util.specs.declared.refusal.Refusal.{Refusal}
use Rattle.nitro.specs.declared.entry.Checked.{Checked}
use Rattle.nitro.specs.EntryCode.{check_means}
use Rattle.listing.specs.SectionCode.{totals_with, FewTotals}
use Rattle.listing.proofs.TotalsLaws.{add_refused, add_accepted}
use Rattle.listing.proofs.add_check.Goals as goal

-- `listing::add_check` meets its contract. Assumes nothing.
pub overflow_add-r-in-Ok-2 : goal.overflow_add-r-in-Ok-2
overflow_add-r-in-Ok-2 c =
    let h = (subst (FewTotals c.args.t) c.in-Ok.is c.requires).2 in
    omega arith

pub returns-in-Err : goal.returns-in-Err
returns-in-Err c =
    add_refused c.args.t c.in-Err.field-0 ∙ ap (λ (x : Result Checked Refusal). totals_with c.args.t (check_means x)) (sym c.in-Err.is)

pub returns-in-Ok : goal.returns-in-Ok
returns-in-Ok c =
    add_accepted c.args.t c.in-Ok.e ∙ ap (λ (x : Result Checked Refusal). totals_with c.args.t (check_means x)) (sym c.in-Ok.is)
