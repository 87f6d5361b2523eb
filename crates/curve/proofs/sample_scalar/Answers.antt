use Prim.Native.Nat.{◌+◌, ◌*◌}
use mathlib.Core.Path.{subst}
use borrow.Author.Rules.{rules}
use lib.ListN.{drop}
use Rattle.curve.specs.Curve.{mix, sample_at, number_of}
use Rattle.curve.specs.CurveCode.{Inside, values_in}
use Rattle.curve.proofs.MixLaws.{number_same}
use Rattle.curve.proofs.SampleLaws.{value_count, value_there, sample_empty}
use Rattle.curve.proofs.sample_scalar.Goals as goal

-- `curve::sample_scalar` meets its contract. Assumes nothing.
pub returns-in-None : goal.returns-in-None
unfolding sample_at
returns-in-None c = rw c.in-None.is

pub returns-in-Constant : goal.returns-in-Constant
unfolding sample_at
returns-in-Constant c = rw c.in-Constant.is c.constant.ensures

pub returns-then-l-eq0 : goal.returns-then-l-eq0
returns-then-l-eq0 c =
    let a = c.args in
    rw c.in-Samples.is (sample_empty mix a.default _ _ (value_count number_of a.s.now c.in-Samples.l c.in-Samples.number) a.frame c.if-l-eq0.true)

pub returns-else-l-eq0 : goal.returns-else-l-eq0
returns-else-l-eq0 c =
    let a = c.args in
    let l = c.in-Samples.l in
    let n = c.in-Samples.number in
    let i = subst (Inside a.s.now) c.in-Samples.is c.requires in
    rw c.in-Samples.is (c.sample_list.ensures a.default (values_in number_of a.s.now l n) (record {
      count = value_count number_of a.s.now l n;
      there = λ k h r e. value_there a.s.now l n i a.default k h r (search rules);
      still = λ k h r e. number_same n (drop (l.place + l.size * k) a.s.now) r (search rules);
    }))
