use Prim.Native.Nat.{◌-◌}
use mathlib.Core.Path.{refl}
use native.Mathlib.Omega.{arith}
use borrow.Author.Tests.{le-leb, lt-leb}
use Rattle.curve.proofs.SampleLaws.{on_value_in, index_in}
use Rattle.curve.proofs.spot_of.Goals as goal

pub returns-then-frame-l : goal.returns-then-frame-l
returns-then-frame-l c =
    let a = c.args in
    on_value_in a.l a.frame 0 c.requires.1 (rw (le-leb a.frame a.l.start c.if-frame-l.true) refl) _ c.on_value.ensures

pub returns-then-l-frame : goal.returns-then-l-frame
returns-then-l-frame c =
    let a = c.args in
    on_value_in a.l a.frame (a.l.length - 1) (omega arith) (rw (lt-leb a.frame a.l.start c.if-frame-l.false, le-leb (a.l.end - 1) a.frame c.if-l-frame.true) refl) _ c.on_value-then-l-frame.ensures

pub returns : goal.returns
returns c =
    let a = c.args in
    let q = c.locate.ensures in
    index_in a.l a.frame c.requires.1 (omega arith) c.if-frame-l.false c.if-l-frame.false (omega arith) _ q.0 q.1 q.2
