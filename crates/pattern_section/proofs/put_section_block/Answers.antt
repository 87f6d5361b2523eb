use native.Mathlib.Omega.{arith}
use Rattle.util.specs.View.{little_bytes}
use Rattle.info_block.specs.InfoBlock.{block_head, block_bytes}
use Rattle.util.proofs.Fields.{nothing, more, word, several, single}
use Rattle.info_block.proofs.WrittenLaws.{head_length}
use Rattle.pattern_section.proofs.put_section_block.Goals as goal

-- `pattern_section::put_section_block` meets its contract. Assumes nothing.
pub returns : goal.returns
unfolding block_bytes
returns c =
    let a = c.args in
    let h = head_length 1 4 in
    let e1 = c.put_head-a.ensures in
    let e3 = c.put_bytes.ensures in
    let v1 = several (nothing a.out.now a.at) (block_head 1 4) c.put_head-a.new.out c.put_head-a.result (omega arith) e1.1 in
    let v2 = word v1 4 48 c.put_word-b.new.out c.put_word-b.result c.put_word-b.ensures in
    let v3 = more v2 a.name.now c.put_bytes.new.out c.put_bytes.result e3.0 e3.1 in
    (omega arith, rw (single (little_bytes 4 48), single a.name.now) v3.is)
