use Rattle.curve.specs.Curve.{number_of}
use Rattle.curve.proofs.SampleLaws.{same_count}
use Rattle.animation.specs.Animation.{value_from}
use Rattle.animation.proofs.axes_samples.Goals as goal

-- `animation::axes_samples` meets its contract. Assumes nothing.
pub returns : goal.returns
returns c = λ t s.
    let a = c.args in
    let alike = same_count number_of (value_from t) s in
    cc (c.sample_count.ensures s, alike a.x, c.sample_count-2.ensures s, alike a.y, c.sample_count-3.ensures s, alike a.z)
