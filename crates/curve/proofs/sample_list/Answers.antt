use Rattle.curve.proofs.SampleLaws.{sample_on, sample_between}
use Rattle.curve.proofs.sample_list.Goals as goal

-- `curve::sample_list` meets its contract. Assumes nothing.
pub returns-then-p : goal.returns-then-p
returns-then-p g c default values h =
    let a = c.args in
    let q = c.spot_of-p.ensures in
    sample_on g.V.Mix.mixed default a.l values h.count a.frame c.requires.framed.1 _ q c.if-p.true _ (h.still _ q.first _ c.value-lo.ensures) (h.there _ q.first _ c.value-lo.ensures)

pub returns : goal.returns
returns g c default values h =
    let a = c.args in
    let q = c.spot_of-p.ensures in
    sample_between g.V.Mix.mixed default a.l values h.count a.frame c.requires.framed.1 _ q c.if-p.false _ _ _ (h.there _ q.first _ c.value-lo.ensures) (h.there _ q.second _ c.value-hi.ensures) c.lerp.ensures
