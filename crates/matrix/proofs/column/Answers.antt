use Rattle.matrix.proofs.column.Goals as goal

-- `matrix::column` meets its contract. Assumes nothing.
pub returns : goal.returns
returns c = cc
