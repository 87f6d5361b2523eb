use mathlib.Core.Path.{refl, sym, ◌∙◌}
use native.Mathlib.Numerals.{unary_clauses}
use native.Mathlib.Omega.{arith}
use lib.ListN.{length-set}
use Rattle.util.proofs.WritesLaws.{item_written, items_written}
use Rattle.util.proofs.view.put_bytes.Goals as goal

pub loop-i-init : goal.loop-i-init
loop-i-init c = (refl, simp unary_clauses refl)

pub loop-i-preserved : goal.loop-i-preserved
loop-i-preserved c =
    let l = c.loop-i in
    let a = c.args in
    (simp length-set l.invariant.0, sym (item_written a.bytes.now l.out a.at l.i _ 0 (omega arith) refl) ∙ l.invariant.1)

pub shape_of-out : goal.shape_of-out
shape_of-out c = c.loop-i.invariant.0

pub returns : goal.returns
returns c =
    let l = c.loop-i in
    let a = c.args in
    (refl, items_written a.bytes.now l.out a.at l.i (omega arith) ∙ l.invariant.1)
