use Rattle.util.proofs.TryLaws.{refuses, too_short}
use Rattle.animation.proofs.RotationLaws.{references_short, references_refused, references_whole}
use Rattle.animation.proofs.read_references.Goals as goal

-- `animation::read_references` meets its contract. Assumes nothing.
pub returns-in_err-far : goal.returns-in_err-far
returns-in_err-far c =
    let a = c.args in
    let h = c.in_err-far.ensures in
    too_short _ _ c.from_residual.ensures.1 h.1 (references_short a.t a.w a.offset a.at.pos a.at.reach a.s.now _ c.sample_list-list.ensures h.0)

pub returns-in_err-reach : goal.returns-in_err-reach
returns-in_err-reach c =
    let a = c.args in
    let h = c.in_ok-far.ensures in
    refuses _ _ c.from_residual-in_err-reach.ensures.1 (references_refused a.t a.w a.offset a.at.pos a.at.reach a.s.now _ c.sample_list-list.ensures h.0 _ h.1 _ c.in_err-reach.ensures)

pub returns : goal.returns
returns c =
    let a = c.args in
    let h = c.in_ok-far.ensures in
    references_whole a.t a.w a.offset a.at.pos a.at.reach a.s.now _ c.sample_list-list.ensures h.0 _ h.1 c.requires _ c.in_ok-reach.ensures
