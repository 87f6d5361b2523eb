use native.Mathlib.Omega.{arith}
use Rattle.util.proofs.Fields.{nothing, word}
use Rattle.pattern_section.proofs.put_entry_head.Goals as goal

-- `pattern_section::put_entry_head` meets its contract. Assumes nothing.
pub returns : goal.returns
returns c =
    let a = c.args in
    let v1 = word (nothing a.out.now a.at) 4 0 c.put_word-a.new.out c.put_word-a.result c.put_word-a.ensures in
    let v2 = word v1 2 a.frames c.put_word-b.new.out c.put_word-b.result c.put_word-b.ensures in
    let v3 = word v2 1 a.textures c.put_word-c.new.out c.put_word-c.result c.put_word-c.ensures in
    let v4 = word v3 1 a.palettes c.put_word-d.new.out c.put_word-d.result c.put_word-d.ensures in
    let v5 = word v4 2 a.texture_place c.put_word-e.new.out c.put_word-e.result c.put_word-e.ensures in
    let v6 = word v5 2 a.palette_place c.put_word.new.out c.put_word.result c.put_word.ensures in
    (omega arith, v6.is)
