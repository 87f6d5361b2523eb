use mathlib.Core.Path.{◌∙◌}
use borrow.Author.Rules.{rules}
use Rattle.matrix.specs.Matrix.{identity3}
use Rattle.curve.specs.Curve.{mix_mat, sample_at}
use Rattle.curve.proofs.SampleLaws.{sample_empty}
use Rattle.animation.proofs.RotationLaws.{matrix_count}
use Rattle.trs.proofs.TrsLaws.{matrix_same}
use Rattle.trs.proofs.sample_rotation.Goals as goal

-- `trs::sample_rotation` meets its contract. Assumes nothing.
pub returns-in-None : goal.returns-in-None
unfolding sample_at
returns-in-None c = rw c.in-None.is c.identity.ensures

pub returns-in-Constant : goal.returns-in-Constant
unfolding sample_at
returns-in-Constant c = rw c.in-Constant.is c.matrix_of.ensures

pub returns-then-l-eq0 : goal.returns-then-l-eq0
returns-then-l-eq0 c =
    let a = c.args in
    rw c.in-Samples.is (c.identity-then-l-eq0.ensures ∙ sample_empty mix_mat identity3 _ _ (matrix_count a.t a.s.now c.in-Samples.l) a.frame c.if-l-eq0.true)

pub returns-else-l-eq0 : goal.returns-else-l-eq0
returns-else-l-eq0 c =
    let a = c.args in
    let l = c.in-Samples.l in
    rw c.in-Samples.is (c.sample_list.ensures identity3 _ (record {
      count = matrix_count a.t a.s.now l;
      there = λ k h r e. search rules;
      still = λ k h r e. matrix_same a.t a.s.now l k h r (search rules);
    }))
