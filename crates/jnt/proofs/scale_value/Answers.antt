use mathlib.Core.Path.{sym, ◌∙◌}
use Rattle.calls.specs.Calls.{scale_value, ask_object}
use Rattle.jnt.proofs.JntLaws.{inside_here, told_here, hands_on}
use Rattle.jnt.proofs.scale_value.Goals as goal

-- `jnt::scale_value` meets its contract. Assumes nothing.
pub scale_value-requires : goal.scale_value-requires
scale_value-requires c = (inside_here c.in_ok-off.ensures c.object_at-c.ensures).scale

pub returns-in_err-off : goal.returns-in_err-off
returns-in_err-off c = hands_on _ _ _ c.from_residual.ensures.1 (c.in_err-off.ensures (scale_value c.args.axis c.args.index))

pub returns : goal.returns
unfolding ask_object
returns c = c.scale_value.ensures ∙ sym (told_here c.in_ok-off.ensures c.object_at-c.ensures (scale_value c.args.axis c.args.index))
