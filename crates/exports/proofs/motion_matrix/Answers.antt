use Prim.Native.Nat.{ℕ}
use mathlib.Core.Path.{refl, sym, ap, ◌∙◌}
use native.Mathlib.Omega.{arith}
use Rattle.calls.specs.AnswersCode.{matrix_answer_means}
use Rattle.exports.proofs.AnswerLaws.{bytes_refused, bytes_small, bytes_whole, answer_finite}
use Rattle.exports.proofs.motion_matrix.Goals as goal

-- `exports::motion_matrix` meets its contract. Assumes nothing.
pub returns-then-out-lt128 : goal.returns-then-out-lt128
returns-then-out-lt128 c =
    let a = c.args in
    let q = bytes_small a.s.now a.entry a.object a.frame a.out.now _ (ap matrix_answer_means (sym c.in-Ok.is) ∙ c.matrix.ensures) c.if-out-lt128.true in
    (rw q c.into-then-out-lt128.ensures, rw q refl)

pub put_matrix-requires : goal.put_matrix-requires
put_matrix-requires c =
    let a = c.args in
    (c.if-out-lt128.false, answer_finite a.s.now a.entry a.object a.frame (λ (i : ℕ). omega (arith, c.type_inv.s i)) _ (ap matrix_answer_means (sym c.in-Ok.is) ∙ c.matrix.ensures))

pub returns-in-Err : goal.returns-in-Err
returns-in-Err c =
    let a = c.args in
    let q = bytes_refused a.s.now a.entry a.object a.frame a.out.now _ (ap matrix_answer_means (sym c.in-Err.is) ∙ c.matrix.ensures) in
    (rw q c.into.ensures, rw q refl)

pub returns-else-out-lt128 : goal.returns-else-out-lt128
returns-else-out-lt128 c =
    let a = c.args in
    let q = bytes_whole a.s.now a.entry a.object a.frame a.out.now _ (ap matrix_answer_means (sym c.in-Ok.is) ∙ c.matrix.ensures) c.if-out-lt128.false in
    (rw q refl, rw q c.put_matrix.ensures)
