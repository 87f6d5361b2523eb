use native.Mathlib.Omega.{arith}
use Rattle.util.proofs.ViewLaws.{word_join}
use Rattle.util.proofs.view.word64.Goals as goal

-- `util::view::word64` meets its contract. Assumes nothing.
pub returns : goal.returns
returns c =
    let a = c.args in
    omega (arith, c.word32-2.ensures, word_join 4 4 a.s.now a.p (omega arith))
