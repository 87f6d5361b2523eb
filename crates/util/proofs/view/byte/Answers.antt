use native.Mathlib.Omega.{arith}
use Rattle.util.proofs.ViewLaws.{word_one}
use Rattle.util.proofs.view.byte.Goals as goal

-- `util::view::byte` meets its contract. Assumes nothing.
pub returns : goal.returns
returns c = let a = c.args in word_one a.s.now a.p (omega arith)
