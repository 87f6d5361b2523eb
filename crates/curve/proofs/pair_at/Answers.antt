use mathlib.Core.Path.{subst}
use Rattle.curve.specs.Curve.{pair_of}
use Rattle.curve.specs.CurveCode.{InsideOf}
use Rattle.curve.proofs.SampleLaws.{value_count, pair_there, pair_past, pair_found}
use Rattle.curve.proofs.pair_at.Goals as goal

-- `curve::pair_at` meets its contract. Assumes nothing.
-- an index that is let through is below the count
pub returns-in-Samples : goal.returns-in-Samples
returns-in-Samples c =
    let a = c.args in
    let l = c.in-Samples.l in
    let n = c.in-Samples.number in
    let below = c.if-index-l.true in
    pair_found a.s.now a.c _ c.in-Samples.is a.index (rw (value_count pair_of a.s.now l n) below) _ (λ d. pair_there a.s.now l n (subst (InsideOf 2 a.s.now) c.in-Samples.is c.requires) d a.index below _ c.list_value.ensures)

pub returns-in_default-2 : goal.returns-in_default-2
returns-in_default-2 c =
    let a = c.args in
    pair_past a.s.now a.c _ c.in-Samples.is a.index (rw (value_count pair_of a.s.now c.in-Samples.l c.in-Samples.number) c.if-index-l.false)
