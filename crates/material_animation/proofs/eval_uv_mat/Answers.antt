use mathlib.Core.Path.{◌∙◌}
use lib.Ieee.{of_bits}
use Rattle.material_animation.proofs.MaterialLaws.{shift_at_lem, uv_at}
use Rattle.material_animation.proofs.eval_uv_mat.Goals as goal

-- `material_animation::eval_uv_mat` meets its contract. Assumes nothing.
pub returns : goal.returns
unfolding of_bits
returns c =
    let a = c.args in
    λ curves w. c.from_translation.ensures ∙ uv_at _ curves a.frame (shift_at_lem a.s.now a.track a.frame _ _ c.sample_channel-u.ensures c.sample_channel-v.ensures curves w)
