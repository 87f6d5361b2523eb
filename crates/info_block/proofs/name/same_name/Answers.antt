use mathlib.Core.Path.{sym, ◌∙◌}
use native.Mathlib.Omega.{arith}
use Rattle.info_block.proofs.NameLaws.{rest_differ, rest_ends, rest_goes_on, rest_none}
use Rattle.info_block.proofs.name.same_name.Goals as goal

pub returns-then-byte-s : goal.returns-then-byte-s
returns-then-byte-s c =
    let a = c.args in
    sym (sym c.loop-k.invariant ∙ rest_differ a.name.now a.s.now a.p c.loop-k.k (omega arith) c.if-byte-s.true)

pub returns-then-byte-eq0 : goal.returns-then-byte-eq0
returns-then-byte-eq0 c =
    let a = c.args in
    sym (sym c.loop-k.invariant ∙ rest_ends a.name.now a.s.now a.p c.loop-k.k (omega arith) c.if-byte-s.false c.if-byte-eq0.true)

pub loop-k-preserved : goal.loop-k-preserved
loop-k-preserved c =
    let a = c.args in
    sym (rest_goes_on a.name.now a.s.now a.p c.loop-k.k (omega arith) c.if-byte-s.false c.if-byte-eq0.false) ∙ c.loop-k.invariant

pub returns : goal.returns
returns c =
    let l = c.loop-k in
    let a = c.args in
    sym (sym l.invariant ∙ rest_none a.name.now a.s.now a.p l.k c.told-name (omega arith))
