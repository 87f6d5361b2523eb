use mathlib.Core.Path.{ap, ◌∙◌}
use Rattle.util.proofs.ReadsLaws.{known}
use Rattle.nitro.specs.ContainerCode.{kind_means}
use Rattle.text.specs.WritesCode.{pushed}
use Rattle.listing.proofs.SectionLaws.{block_refused, block_whole}
use Rattle.listing.proofs.push_kind.Goals as goal

-- `listing::push_kind` meets its contract. Assumes nothing.
pub returns-in-Err : goal.returns-in-Err
returns-in-Err c =
    let a = c.args in
    c.push_refusal.ensures ∙ ap (pushed a.text.now) (block_refused a.s.now (kind_means a.kind) _ (known c.in-Err.is c.read_section.ensures).reads)

pub returns-in-Ok : goal.returns-in-Ok
returns-in-Ok c =
    let a = c.args in
    c.push_block.ensures ∙ ap (pushed a.text.now) (block_whole a.s.now (kind_means a.kind) _ (known c.in-Ok.is c.read_section.ensures))
