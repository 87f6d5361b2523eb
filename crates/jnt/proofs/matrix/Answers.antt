use mathlib.Core.Path.{sym, ap, ◌∙◌}
use Rattle.util.specs.Reader.{answered}
use Rattle.calls.specs.Calls.{matrix, ask_object}
use Rattle.jnt.proofs.JntLaws.{inside_here, told_here, hands_on}
use Rattle.jnt.proofs.matrix.Goals as goal

-- `jnt::matrix` meets its contract. Assumes nothing.
pub sample_at-requires : goal.sample_at-requires
sample_at-requires c = inside_here c.in_ok-off.ensures c.object_at-c.ensures

pub returns-in_err-off : goal.returns-in_err-off
returns-in_err-off c = hands_on _ _ _ c.from_residual.ensures.1 (c.in_err-off.ensures (matrix c.args.frame))

pub returns : goal.returns
unfolding ask_object
returns c = ap answered c.sample_at.ensures ∙ sym (told_here c.in_ok-off.ensures c.object_at-c.ensures (matrix c.args.frame))
