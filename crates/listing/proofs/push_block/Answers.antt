use Rattle.nitro.specs.ContainerCode.{kind_means}
use Rattle.text.proofs.WritesLaws.{pushed_on}
use Rattle.listing.proofs.SectionLaws.{block_lines}
use Rattle.listing.proofs.push_block.Goals as goal

-- `listing::push_block` meets its contract. Assumes nothing.
pub returns : goal.returns
returns c =
    let a = c.args in
    rw (c.push_entries.ensures, c.push_decimal_line.ensures, c.push_stamp.ensures, ← block_lines a.s.now (kind_means a.kind) a.b) (simp pushed_on)
