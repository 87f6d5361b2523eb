use borrow.Author.Tests.{le-ltb}
use lib.Dec.{lit<}
use lib.Ieee.{of_bits}
use Rattle.rotation.specs.Rotation.{pivot_mat}
use Rattle.rotation.proofs.RotationLaws.{under_three, by_columns}
use Rattle.rotation.proofs.pivot_mat.Goals as goal

-- `rotation::pivot_mat` meets its contract. Assumes nothing.
pub returns-then-select-ge9 : goal.returns-then-select-ge9
unfolding pivot_mat of_bits
returns-then-select-ge9 c = simp (le-ltb _ _ c.if-select-ge9.true)

pub column-requires : goal.column-requires
column-requires c = under_three _ c.if-select-ge9.false 0 (lit< tt)

pub column-requires-2 : goal.column-requires-2
column-requires-2 c = under_three _ c.if-select-ge9.false 3 (lit< tt)

pub column-requires-3 : goal.column-requires-3
column-requires-3 c = under_three _ c.if-select-ge9.false 6 (lit< tt)

pub returns : goal.returns
unfolding of_bits
returns c =
    by_columns _ c.if-select-ge9.false _ _ _ _ _ _
    c.turn.ensures c.turn-2.ensures c.turn-3.ensures
    _ _ _ c.column.ensures c.column-2.ensures c.column-3.ensures
