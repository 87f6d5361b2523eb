use mathlib.Core.Path.{refl}
use Rattle.util.specs.View.{little_bytes}
use Rattle.matrix.specs.Matrix.{column_bytes, bytes_of}
use Rattle.matrix.proofs.BytesLaws.{four_written}
use Rattle.matrix.proofs.put_matrix.Goals as goal

-- `matrix::put_matrix` meets its contract. Assumes nothing.
pub returns : goal.returns
unfolding little_bytes bytes_of
returns c =
    let v = c.args.m in
    four_written c.args.out.now c.put_column.new.out c.put_column-2.new.out c.put_column-3.new.out c.put_column-4.new.out 0 32 64 96 (column_bytes v.c0) (column_bytes v.c1) (column_bytes v.c2) (column_bytes v.c3) refl refl refl
    c.put_column.ensures c.put_column-2.ensures c.put_column-3.ensures c.put_column-4.ensures
