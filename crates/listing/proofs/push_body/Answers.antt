use mathlib.Core.Path.{ap, ◌∙◌}
use Rattle.nitro.specs.ContainerCode.{kind_means, stamp_means}
use Rattle.nitro.proofs.ContainerLaws.{stamp_of_lem}
use Rattle.text.specs.WritesCode.{pushed}
use Rattle.listing.proofs.SectionLaws.{too_long, no_stamp, with_stamp}
use Rattle.listing.proofs.push_body.Goals as goal

-- `listing::push_body` meets its contract. Assumes nothing.
pub returns-then-s-gt65536 : goal.returns-then-s-gt65536
returns-then-s-gt65536 c = c.push_refusal.ensures ∙ ap (pushed c.args.text.now) (too_long c.args.s.now c.if-s-gt65536.true)

pub push_kind-requires : goal.push_kind-requires
push_kind-requires c =
    (stamp_of_lem c.args.s.now 4 (kind_means c.in-Ok.kind) (c.read_stamp.ensures ∙ ap stamp_means c.in-Ok.is)).0

pub returns-in-Err : goal.returns-in-Err
returns-in-Err c =
    c.push_refusal-in-Err.ensures ∙ ap (pushed c.args.text.now) (no_stamp c.args.s.now c.if-s-gt65536.false _ (c.read_stamp.ensures ∙ ap stamp_means c.in-Err.is))

pub returns-in-Ok : goal.returns-in-Ok
returns-in-Ok c =
    c.push_kind.ensures ∙ ap (pushed c.args.text.now) (with_stamp c.args.s.now c.if-s-gt65536.false (kind_means c.in-Ok.kind) (c.read_stamp.ensures ∙ ap stamp_means c.in-Ok.is))
