use mathlib.Core.Path.{refl, sym, ◌∙◌}
use native.Mathlib.Numerals.{unary_clauses}
use native.Mathlib.Omega.{arith}
use lib.ListN.{length-set}
use Rattle.util.proofs.ViewLaws.{byte_written, bytes_written}
use Rattle.util.proofs.view.put_word.Goals as goal

pub loop-i-init : goal.loop-i-init
loop-i-init c = (omega arith, refl, simp unary_clauses refl)

pub loop-i-preserved : goal.loop-i-preserved
loop-i-preserved c =
    let l = c.loop-i in
    let a = c.args in
    (omega arith, simp length-set l.invariant.1, rw c.low_byte.ensures (sym (byte_written a.n l.out a.at l.i l.rest (omega arith)) ∙ l.invariant.2))

pub shape_of-out : goal.shape_of-out
shape_of-out c = c.loop-i.invariant.1

pub returns : goal.returns
returns c = (refl, bytes_written _ _ _ _ _ c.loop-i-test.false ∙ c.loop-i.invariant.2)
