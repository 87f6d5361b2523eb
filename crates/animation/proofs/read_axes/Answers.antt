use mathlib.Core.Path.{◌∙◌}
use native.Mathlib.Omega.{arith}
use Rattle.util.specs.Reader.{run}
use Rattle.util.proofs.ReadsLaws.{goes_on, stops}
use Rattle.animation.specs.Animation.{axes}
use Rattle.animation.specs.AnimationCode.{triple_means}
use Rattle.util.proofs.TryLaws.{refuses}
use Rattle.animation.proofs.read_axes.Goals as goal

-- `animation::read_axes` meets its contract. Assumes nothing.
pub returns-in_err-x : goal.returns-in_err-x
unfolding axes
returns-in_err-x c = refuses _ _ c.from_residual.ensures.1 (stops _ _ _ _ _ c.in_err-x.ensures.reads)

pub returns-in_err-y : goal.returns-in_err-y
unfolding axes
returns-in_err-y c = refuses _ _ c.from_residual-in_err-y.ensures.1 (goes_on _ _ _ _ _ _ c.in_ok-x.ensures.reads ∙ stops _ _ _ _ _ c.in_err-y.ensures.reads)

pub returns-in_err-z : goal.returns-in_err-z
unfolding axes
returns-in_err-z c =
    refuses _ _ c.from_residual-in_err-z.ensures.1 (goes_on _ _ _ _ _ _ c.in_ok-x.ensures.reads ∙ (goes_on _ _ _ _ _ _ c.in_ok-y.ensures.reads ∙ stops _ _ _ _ _ c.in_err-z.ensures.reads))

pub returns : goal.returns
unfolding axes run
returns c =
    let x = c.in_ok-x.ensures in
    let y = c.in_ok-y.ensures in
    let z = c.in_ok-z.ensures in
    record {
      reads = goes_on _ _ _ _ _ _ x.reads ∙ (goes_on _ _ _ _ _ _ y.reads ∙ goes_on _ _ _ _ _ _ z.reads);
      holds = (record { x = x.holds.0; y = y.holds.0; z = z.holds.0 }, let p = x.holds.1 in let q = y.holds.1 in let r = z.holds.1 in omega arith, c.axes_samples.ensures (triple_means c.args.which) _);
    }
