use Prim.Native.Nat.{◌+◌}
use native.Mathlib.Omega.{arith}
use Rattle.util.proofs.ViewLaws.{word_two}
use Rattle.util.proofs.view.word16.Goals as goal

-- `util::view::word16` meets its contract. Assumes nothing.
pub overflow_cast-result : goal.overflow_cast-result
overflow_cast-result c = omega (arith, c.type_inv.s c.args.p)

pub overflow_cast-result-2 : goal.overflow_cast-result-2
overflow_cast-result-2 c = omega (arith, c.type_inv.s (c.args.p + 1))

pub overflow_mul-result : goal.overflow_mul-result
overflow_mul-result c = omega (arith, c.type_inv.s (c.args.p + 1))

pub overflow_add-result-2 : goal.overflow_add-result-2
overflow_add-result-2 c = omega (arith, c.type_inv.s (c.args.p + 1), c.type_inv.s c.args.p)

pub returns : goal.returns
returns c = word_two c.args.s.now c.args.p c.requires
