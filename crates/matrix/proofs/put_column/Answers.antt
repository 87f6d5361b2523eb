use Prim.Native.Nat.{◌+◌}
use mathlib.Core.Path.{refl}
use native.Mathlib.Omega.{arith}
use Rattle.util.specs.View.{little_bytes}
use Rattle.matrix.specs.Matrix.{float_bytes}
use Rattle.matrix.proofs.BytesLaws.{finite_no_nan, four_written}
use Rattle.matrix.proofs.put_column.Goals as goal

-- `matrix::put_column` meets its contract. Assumes nothing.
pub float_to_bits-c : goal.float_to_bits-c
float_to_bits-c c = finite_no_nan _ c.requires.1.x

pub float_to_bits-c-2 : goal.float_to_bits-c-2
float_to_bits-c-2 c = finite_no_nan _ c.requires.1.y

pub float_to_bits-c-3 : goal.float_to_bits-c-3
float_to_bits-c-3 c = finite_no_nan _ c.requires.1.z

pub float_to_bits-c-4 : goal.float_to_bits-c-4
float_to_bits-c-4 c = finite_no_nan _ c.requires.1.w

pub returns : goal.returns
unfolding little_bytes
returns c =
    let v = c.args.c in
    let p = c.args.at in
    four_written c.args.out.now c.put64.new.out c.put64-2.new.out c.put64-3.new.out c.put64-4.new.out p (p + 8) (p + 16) (p + 24) (float_bytes v.x) (float_bytes v.y) (float_bytes v.z) (float_bytes v.w) refl (omega arith) (omega arith)
    c.put64.ensures c.put64-2.ensures c.put64-3.ensures c.put64-4.ensures
