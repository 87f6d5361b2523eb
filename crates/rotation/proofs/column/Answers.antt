use Rattle.rotation.proofs.column.Goals as goal

-- `rotation::column` meets its contract. Assumes nothing.
pub returns : goal.returns
returns c = cc
