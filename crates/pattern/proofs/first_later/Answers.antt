use native.Mathlib.Omega.{arith}
use borrow.Author.Count.{below_more}
use Rattle.pattern.proofs.PatternLaws.{found_later, none_later}
use Rattle.pattern.proofs.first_later.Goals as goal

pub returns-then-frame-key_at : goal.returns-then-frame-key_at
returns-then-frame-key_at c =
    let a = c.args in
    found_later a.s.now a.keys a.frame _ (omega arith) (_, c.key_at.ensures, c.if-frame-key_at.true) c.loop-k.invariant

pub loop-k-preserved : goal.loop-k-preserved
loop-k-preserved c = below_more _ _ c.loop-k.invariant (_, c.key_at.ensures, c.if-frame-key_at.false)

pub returns : goal.returns
returns c =
    let a = c.args in
    none_later a.s.now a.keys a.frame (λ j h. c.loop-k.invariant j (omega arith))
