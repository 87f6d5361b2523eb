use Rattle.util.proofs.TryLaws.{refuses, too_short}
use Rattle.animation.proofs.RotationLaws.{constant_rotation_short, constant_rotation_refused, constant_rotation_whole}
use Rattle.animation.proofs.read_constant_rotation.Goals as goal

-- `animation::read_constant_rotation` meets its contract. Assumes nothing.
pub returns-in_err-far : goal.returns-in_err-far
returns-in_err-far c =
    let a = c.args in
    let h = c.in_err-far.ensures in
    too_short _ _ c.from_residual.ensures.1 h.1 (constant_rotation_short a.t a.at.pos a.at.reach a.s.now h.0)

pub returns-in_err-reach : goal.returns-in_err-reach
returns-in_err-reach c =
    let a = c.args in
    let h = c.in_ok-far.ensures in
    refuses _ _ c.from_residual-in_err-reach.ensures.1 (constant_rotation_refused a.t a.at.pos a.at.reach a.s.now h.0 _ c.word16-x.ensures _ h.1 _ c.in_err-reach.ensures)

pub returns : goal.returns
returns c =
    let a = c.args in
    let h = c.in_ok-far.ensures in
    constant_rotation_whole a.t a.at.pos a.at.reach a.s.now h.0 _ c.word16-x.ensures _ h.1 _ c.in_ok-reach.ensures
