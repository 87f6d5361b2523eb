use native.Mathlib.Omega.{arith}
use Rattle.animation.proofs.GreatestLaws.{left_next, left_none}
use Rattle.animation.proofs.greatest_of.Goals as goal

-- `animation::greatest_of` meets its contract. Assumes nothing.
pub loop-i-preserved : goal.loop-i-preserved
loop-i-preserved c =
    let l = c.loop-i in
    let a = c.args in
    let plain = c.max-plain.ensures in
    let turned = c.max-turned.ensures in
    rw (plain, turned, c.turn.ensures) (left_next a.s.now a.list a.n l.i l.plain l.turned c.word16-x.result (omega arith) c.word16-x.ensures (omega arith) (omega arith) (omega arith) l.invariant)

pub returns : goal.returns
returns c = let l = c.loop-i in let a = c.args in left_none a.s.now a.list a.n l.i l.plain l.turned c.loop-i-test.false l.invariant
