use mathlib.Core.Path.{◌∙◌}
use Rattle.util.specs.Reader.{run}
use Rattle.util.proofs.ReadsLaws.{goes_on, stops}
use Rattle.animation.specs.Animation.{animated}
use Rattle.util.proofs.TryLaws.{refuses}
use Rattle.animation.proofs.read_animated.Goals as goal

-- `animation::read_animated` meets its contract. Assumes nothing.
pub returns-in_err-trans : goal.returns-in_err-trans
unfolding animated
returns-in_err-trans c = refuses _ _ c.from_residual.ensures.1 (stops _ _ _ _ _ c.in_err-trans.ensures.reads)

pub returns-in_err-rotation : goal.returns-in_err-rotation
unfolding animated
returns-in_err-rotation c = refuses _ _ c.from_residual-in_err-rotation.ensures.1 (goes_on _ _ _ _ _ _ c.in_ok-trans.ensures.reads ∙ stops _ _ _ _ _ c.in_err-rotation.ensures.reads)

pub returns-in_err-scale : goal.returns-in_err-scale
unfolding animated
returns-in_err-scale c =
    refuses _ _ c.from_residual-in_err-scale.ensures.1 (goes_on _ _ _ _ _ _ c.in_ok-trans.ensures.reads ∙ (goes_on _ _ _ _ _ _ c.in_ok-rotation.ensures.reads ∙ stops _ _ _ _ _ c.in_err-scale.ensures.reads))

pub returns : goal.returns
unfolding animated run
returns c =
    let a = c.args in
    let x = c.in_ok-trans.ensures in
    let y = c.in_ok-rotation.ensures in
    let z = c.in_ok-scale.ensures in
    record {
      reads = goes_on _ _ _ _ _ _ x.reads ∙ (goes_on _ _ _ _ _ _ y.reads ∙ goes_on _ _ _ _ _ _ z.reads);
      holds =
          record {
            inside = record { trans = x.holds.0; rotation = y.holds.0; scale = z.holds.0 };
            samples = cc (x.holds.2, c.rotation_samples.ensures a.t a.s.now, z.holds.2);
          };
    }
