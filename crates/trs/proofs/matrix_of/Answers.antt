use mathlib.Core.Path.{ap, ◌∙◌}
use Rattle.animation.specs.AnimationCode.{matrix_in}
use Rattle.trs.proofs.matrix_of.Goals as goal

-- `trs::matrix_of` meets its contract. Assumes nothing.
pub returns-in-Pivot : goal.returns-in-Pivot
returns-in-Pivot c = c.pivot_at.ensures ∙ ap (matrix_in c.args.s.now) c.in-Pivot.ensures

pub returns-in-Basis : goal.returns-in-Basis
returns-in-Basis c = c.basis_at.ensures ∙ ap (matrix_in c.args.s.now) c.in-Basis.ensures
