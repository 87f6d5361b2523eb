use Rattle.trs.proofs.TrsLaws.{basis_there}
use Rattle.trs.proofs.basis_at.Goals as goal

-- `trs::basis_at` meets its contract. Assumes nothing.
pub returns : goal.returns
returns c =
    let a = c.args in
    rw (basis_there a.s.now a.p, ← c.word16.ensures, ← c.word16-2.ensures, ← c.word16-3.ensures, ← c.word16-4.ensures, ← c.word16-5.ensures) c.basis_mat.ensures
