use Prim.Native.Nat.{◌+◌}
use mathlib.Core.Path.{refl}
use native.Mathlib.Omega.{arith}
use Rattle.matrix.specs.Matrix.{column_floats}
use Rattle.matrix.proofs.BytesLaws.{four_written}
use Rattle.matrix.proofs.put_floats.Goals as goal

-- `matrix::put_floats` meets its contract. Assumes nothing.
pub returns : goal.returns
returns c =
    let v = c.args.m in
    let p = c.args.at in
    four_written c.args.out.now c.put_four.new.out c.put_four-2.new.out c.put_four-3.new.out c.put_four-4.new.out p (p + 4) (p + 8) (p + 12) (column_floats v.c0) (column_floats v.c1) (column_floats v.c2) (column_floats v.c3) refl (omega arith) (omega arith)
    c.put_four.ensures c.put_four-2.ensures c.put_four-3.ensures c.put_four-4.ensures
