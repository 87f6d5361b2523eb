use Rattle.animation.specs.AnimationCode.{triple_means}
use Rattle.util.proofs.TryLaws.{too_short}
use Rattle.animation.proofs.ScalarLaws.{code_short, code_whole}
use Rattle.animation.proofs.read_values.Goals as goal

-- `animation::read_values` meets its contract. Assumes nothing.
pub returns-in_err-reach : goal.returns-in_err-reach
returns-in_err-reach c =
    let a = c.args in
    let h = c.in_err-reach.ensures in
    too_short _ _ c.from_residual.ensures.1 h.1 (code_short (triple_means a.which) a.w a.offset a.at.pos a.at.reach a.s.now _ c.value_size-size.ensures _ c.sample_list-list.ensures h.0)

pub returns : goal.returns
returns c =
    let a = c.args in
    let h = c.in_ok-reach.ensures in
    code_whole (triple_means a.which) a.w a.offset a.at.pos a.at.reach a.s.now _ c.value_size-size.ensures _ c.sample_list-list.ensures _ c.number_of.ensures c.requires _ h.1 h.0
