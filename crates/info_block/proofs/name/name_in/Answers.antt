use Rattle.info_block.proofs.NameLaws.{name_past, name_there}
use Rattle.info_block.proofs.name.name_in.Goals as goal

-- `info_block::name::name_in` meets its contract. Assumes nothing.
pub returns-then-block-i : goal.returns-then-block-i
returns-then-block-i c = let a = c.args in name_past a.s.now a.offset a.block a.i c.if-block-i.true

pub returns : goal.returns
returns c =
    let a = c.args in
    name_there a.s.now a.offset a.block a.i c.if-block-i.false _ c.name_at.ensures
