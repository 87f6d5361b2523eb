use mathlib.Core.Path.{◌∙◌}
use native.Mathlib.Omega.{arith}
use Rattle.animation.specs.AnimationCode.{triple_means}
use Rattle.util.proofs.TryLaws.{too_short}
use Rattle.animation.proofs.ScalarLaws.{constant_short, constant_whole}
use Rattle.animation.proofs.read_constant.Goals as goal

-- `animation::read_constant` meets its contract. Assumes nothing.
pub returns-in_err-reach : goal.returns-in_err-reach
returns-in_err-reach c =
    let a = c.args in
    let h = c.in_err-reach.ensures in
    too_short _ _ c.from_residual.ensures.1 h.1 (constant_short (triple_means a.which) a.at.pos a.at.reach a.s.now _ c.numbers.ensures.0 h.0)

pub returns : goal.returns
returns c =
    let a = c.args in
    let n = c.numbers.ensures in
    let h = c.in_ok-reach.ensures in
    record {
      reads = constant_whole (triple_means a.which) a.at.pos a.at.reach a.s.now _ n.0 h.0 ∙ (cc);
      holds = (omega (arith, n.0), omega arith);
    }
