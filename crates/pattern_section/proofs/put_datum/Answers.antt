use native.Mathlib.Omega.{arith}
use Rattle.util.proofs.Fields.{nothing, word}
use Rattle.pattern_section.proofs.put_datum.Goals as goal

-- `pattern_section::put_datum` meets its contract. Assumes nothing.
pub returns : goal.returns
returns c =
    let a = c.args in
    let v1 = word (nothing a.out.now a.at) 4 a.count c.put_word-a.new.out c.put_word-a.result c.put_word-a.ensures in
    let v2 = word v1 2 0 c.put_word-b.new.out c.put_word-b.result c.put_word-b.ensures in
    let v3 = word v2 2 a.place c.put_word.new.out c.put_word.result c.put_word.ensures in
    (omega arith, v3.is)
