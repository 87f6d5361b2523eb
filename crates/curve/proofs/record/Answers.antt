use Rattle.curve.specs.Curve.{recorded}
use Rattle.curve.proofs.SampleLaws.{value_count, list_recorded}
use Rattle.curve.proofs.record.Goals as goal

-- `curve::record` meets its contract. Assumes nothing.
pub returns-in-None : goal.returns-in-None
unfolding recorded
returns-in-None g c = rw c.in-None.is

pub returns-in-Constant : goal.returns-in-Constant
unfolding recorded
returns-in-Constant g c = rw (c.in-Constant.is, c.constant.ensures)

pub returns-in-Samples : goal.returns-in-Samples
returns-in-Samples g c =
    let a = c.args in
    rw c.in-Samples.is (list_recorded _ _ a.entry _ c.record_list.ensures.0 c.record_list.ensures.1 (value_count g.V.MeantValue.reading a.s.now c.in-Samples.l c.in-Samples.field-1))
