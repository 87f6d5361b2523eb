use native.Mathlib.Omega.{arith}
use Rattle.material_animation.proofs.FindLaws.{shift_nothing, found_inside, shift_found}
use Rattle.material_animation.proofs.find_shift.Goals as goal

-- `material_animation::find_shift` meets its contract. Assumes nothing.
pub overflow_mul-track : goal.overflow_mul-track
overflow_mul-track c =
    let a = c.args in
    let h = found_inside a.s.now a.a c.requires a.name.now a.frame _ c.in_ok-track.ensures in
    omega (arith, c.well_formed.0)

pub overflow_add-a : goal.overflow_add-a
overflow_add-a c =
    let a = c.args in
    let h = found_inside a.s.now a.a c.requires a.name.now a.frame _ c.in_ok-track.ensures in
    omega (arith, c.well_formed.0)

pub eval_uv_shift-requires : goal.eval_uv_shift-requires
eval_uv_shift-requires c =
    let a = c.args in
    found_inside a.s.now a.a c.requires a.name.now a.frame _ c.in_ok-track.ensures

pub returns-in_err-track : goal.returns-in_err-track
returns-in_err-track c =
    let a = c.args in
    λ w. rw c.from_residual.ensures (shift_nothing a.s.now a.a w a.name.now a.frame c.in_err-track.ensures)

pub returns : goal.returns
returns c =
    let a = c.args in
    λ w. shift_found a.s.now a.a w a.name.now a.frame _ c.in_ok-track.ensures _ c.eval_uv_shift.ensures
