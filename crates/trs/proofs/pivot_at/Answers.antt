use Rattle.trs.proofs.TrsLaws.{pivot_there}
use Rattle.trs.proofs.pivot_at.Goals as goal

-- `trs::pivot_at` meets its contract. Assumes nothing.
pub returns : goal.returns
returns c =
    let a = c.args in
    rw (pivot_there a.s.now a.p, ← c.word16-w.ensures, ← c.word16-a.ensures, ← c.word16-b.ensures, ← c.bits.ensures, ← c.bits-2.ensures, ← c.read.ensures, ← c.read-2.ensures) c.pivot_mat.ensures
