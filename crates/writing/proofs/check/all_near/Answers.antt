use mathlib.Core.Path.{refl, sym, ◌∙◌}
use native.Mathlib.Omega.{arith}
use Rattle.writing.proofs.TracksLaws.{near_next, near_far, near_end}
use Rattle.writing.proofs.check.all_near.Goals as goal

pub loop-i-init : goal.loop-i-init
loop-i-init c = (omega arith, refl, omega arith)

pub returns-then-keys-gt65535 : goal.returns-then-keys-gt65535
returns-then-keys-gt65535 c =
    let l = c.loop-i in
    let a = c.args in
    sym (near_far a.n a.tracks.now l.i l.keys c.loop-i-test.true (omega arith)) ∙ l.invariant.1

pub loop-i-preserved : goal.loop-i-preserved
loop-i-preserved c =
    let l = c.loop-i in
    let a = c.args in
    (omega arith, sym (near_next a.n a.tracks.now l.i l.keys c.word32.result c.loop-i-test.true c.word32.ensures (omega arith)) ∙ l.invariant.1, omega arith)

pub returns : goal.returns
returns c =
    let l = c.loop-i in
    let a = c.args in
    sym (near_end a.n a.tracks.now l.i l.keys c.loop-i-test.false) ∙ l.invariant.1
