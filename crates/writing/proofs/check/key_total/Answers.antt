use native.Mathlib.Omega.{arith}
use Rattle.writing.proofs.TracksLaws.{total_step, total_end}
use Rattle.writing.proofs.check.key_total.Goals as goal

pub loop-i-init : goal.loop-i-init
loop-i-init c = (omega arith, omega arith, omega arith)

pub loop-i-preserved : goal.loop-i-preserved
loop-i-preserved c =
    let l = c.loop-i in
    let a = c.args in
    let e = total_step a.n a.tracks.now l.i c.word32.result c.loop-i-test.true c.word32.ensures in
    (omega arith, omega arith, omega arith)

pub returns : goal.returns
returns c =
    let l = c.loop-i in
    let a = c.args in
    let e = total_end a.n a.tracks.now l.i c.loop-i-test.false in
    (omega arith, omega arith)
