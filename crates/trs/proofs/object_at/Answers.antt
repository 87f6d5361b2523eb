use Rattle.trs.proofs.TrsLaws.{object_is_read, object_read}
use Rattle.trs.proofs.object_at.Goals as goal

-- `trs::object_at` meets its contract. Assumes nothing.
pub unwrap-requires : goal.unwrap-requires
unwrap-requires c =
    let a = c.args in
    object_is_read a.s.now a.a c.requires.0 a.o c.requires.1 _ c.word16.ensures _ c.read_object.ensures

pub returns : goal.returns
returns c =
    let a = c.args in
    object_read a.s.now a.a c.requires.0 a.o c.requires.1 _ c.word16.ensures _ (rw c.unwrap.ensures at c.read_object.ensures)
