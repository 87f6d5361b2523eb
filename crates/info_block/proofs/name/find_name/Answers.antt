use borrow.Author.Rules.{rules}
use mathlib.Core.Bool.{true, false}
use Rattle.std.proofs.lemmas.Iterator.{first_from_Range}
use Rattle.info_block.proofs.NameLaws.{is_at, found_first}
use Rattle.info_block.proofs.name.find_name.Goals as goal

-- `info_block::name::find_name` meets its contract. Assumes nothing.
pub returns : goal.returns
returns c =
    let a = c.args in
    found_first a.s.now a.names a.count a.name.now _
    (first_from_Range _ _ _ _ (λ i. is_at a.s.now a.names a.count a.name.now i true) (λ i. is_at a.s.now a.names a.count a.name.now i false) c.find.ensures.ran (λ i f k. search rules) (λ i f k. search rules))
