use mathlib.Core.Path.{subst}
use native.Mathlib.Omega.{arith}
use Rattle.curve.specs.Curve.{recorded}
use Rattle.curve.proofs.SampleLaws.{list_recorded}
use Rattle.animation.specs.AnimationCode.{InsideRotation}
use Rattle.animation.proofs.RotationLaws.{matrix_count}
use Rattle.trs.proofs.record_rotation.Goals as goal

-- `trs::record_rotation` meets its contract. Assumes nothing.
pub matrix_of-requires : goal.matrix_of-requires
matrix_of-requires c = subst (InsideRotation c.args.t c.args.s.now) c.in-Constant.is c.requires.0

pub record_list-requires : goal.record_list-requires
record_list-requires c =
    let i = subst (InsideRotation c.args.t c.args.s.now) c.in-Samples.is c.requires.0 in
    let e = i.room in
    omega arith

pub returns-in-None : goal.returns-in-None
unfolding recorded
returns-in-None c = rw c.in-None.is

pub returns-in-Constant : goal.returns-in-Constant
unfolding recorded
returns-in-Constant c = rw (c.in-Constant.is, c.matrix_of.ensures)

pub returns-in-Samples : goal.returns-in-Samples
returns-in-Samples c =
    let a = c.args in
    rw c.in-Samples.is (list_recorded _ _ a.entry _ c.record_list.ensures.0 c.record_list.ensures.1 (matrix_count a.t a.s.now c.in-Samples.l))
