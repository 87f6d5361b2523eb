use Rattle.trs.proofs.TrsLaws.{reference_inside, matrix_there}
use Rattle.trs.proofs.rotation_value.Goals as goal

-- `trs::rotation_value` meets its contract. Assumes nothing.
pub matrix_of-requires : goal.matrix_of-requires
matrix_of-requires c =
    let a = c.args in
    reference_inside a.t a.s.now a.l a.k c.requires.1 _ c.word16.ensures c.requires.0

pub returns : goal.returns
returns c =
    let a = c.args in
    matrix_there a.t a.s.now a.l a.k c.requires.1 _ c.word16.ensures _ c.matrix_of.ensures
