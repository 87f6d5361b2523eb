use native.Mathlib.Omega.{arith}
use Rattle.util.proofs.ViewLaws.{word_join}
use Rattle.util.proofs.view.word32.Goals as goal

-- `util::view::word32` meets its contract. Assumes nothing.
pub returns : goal.returns
returns c =
    let a = c.args in
    omega (arith, c.word16-2.ensures, word_join 2 2 a.s.now a.p (omega arith))
