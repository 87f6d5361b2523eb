use native.Mathlib.Omega.{arith}
use lib.ListN.{length-set}
use Rattle.matrix.proofs.BytesLaws.{four_set}
use Rattle.matrix.proofs.put_four.Goals as goal

-- `matrix::put_four` meets its contract. Assumes nothing.
pub bounds-out-at-2 : goal.bounds-out-at-2
bounds-out-at-2 c = simp length-set (omega arith)

pub bounds-out-at-3 : goal.bounds-out-at-3
bounds-out-at-3 c = simp length-set (omega arith)

pub bounds-out-at-4 : goal.bounds-out-at-4
bounds-out-at-4 c = simp length-set (omega arith)

pub returns : goal.returns
returns c = let a = c.args in four_set a.out.now a.at a.c.x a.c.y a.c.z a.c.w
