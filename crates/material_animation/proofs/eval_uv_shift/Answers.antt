use Rattle.material_animation.proofs.MaterialLaws.{shift_at_lem}
use Rattle.material_animation.proofs.eval_uv_shift.Goals as goal

-- `material_animation::eval_uv_shift` meets its contract. Assumes nothing.
pub returns : goal.returns
returns c =
    let a = c.args in
    shift_at_lem a.s.now a.track a.frame _ _ c.sample_channel.ensures c.sample_channel-2.ensures
