use native.Mathlib.Omega.{arith}
use mathlib.Core.List.{flatten}
use Rattle.info_block.specs.InfoBlock.{block_head, block_bytes}
use Rattle.pattern_section.specs.Written.{datums, drawn, names}
use Rattle.util.proofs.Fields.{nothing, more, several}
use Rattle.info_block.proofs.WrittenLaws.{head_length}
use Rattle.pattern_section.proofs.DrawnLaws.{datums_drawn_length, names_drawn_length}
use Rattle.pattern_section.proofs.put_tracks.Goals as goal

-- `pattern_section::put_tracks` meets its contract. Assumes nothing.
pub returns : goal.returns
unfolding block_bytes
returns c =
    let a = c.args in
    let bs = a.tracks.now in
    let h = head_length a.n 8 in
    let k = datums_drawn_length a.place a.n bs in
    let n = names_drawn_length a.n bs (omega arith) in
    let e1 = c.put_head-a.ensures in
    let e2 = c.put_datums-b.ensures in
    let e3 = c.put_names.ensures in
    let v1 = several (nothing a.out.now a.at) (block_head a.n 8) c.put_head-a.new.out c.put_head-a.result (omega arith) e1.1 in
    let v2 = more v1 (flatten (datums a.place (drawn a.n bs))) c.put_datums-b.new.out c.put_datums-b.result (omega arith) e2.1 in
    let v3 = more v2 (flatten (names (drawn a.n bs))) c.put_names.new.out c.put_names.result (omega arith) e3.1 in
    (omega arith, v3.is)
