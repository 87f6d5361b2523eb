use Rattle.nitro.specs.Container.{all_kinds}
use Rattle.nitro.proofs.ContainerLaws.{stamp_cut, is_jnt, is_srt, is_pat, is_none}
use Rattle.nitro.proofs.container.read_stamp.Goals as goal

-- `nitro::container::read_stamp` meets its contract. Assumes nothing.
pub returns-then-s-lt4 : goal.returns-then-s-lt4
returns-then-s-lt4 c = stamp_cut c.args.s.now all_kinds c.if-s-lt4.true

pub returns-then-starts_with : goal.returns-then-starts_with
returns-then-starts_with c =
    is_jnt c.args.s.now c.if-s-lt4.false _ c.starts_with.ensures c.if-starts_with.true

pub returns-then-starts_with-2 : goal.returns-then-starts_with-2
returns-then-starts_with-2 c =
    is_srt c.args.s.now c.if-s-lt4.false _ c.starts_with.ensures c.if-starts_with.false _ c.starts_with-2.ensures c.if-starts_with-2.true

pub returns-then-starts_with-3 : goal.returns-then-starts_with-3
returns-then-starts_with-3 c =
    is_pat c.args.s.now c.if-s-lt4.false _ c.starts_with.ensures c.if-starts_with.false _ c.starts_with-2.ensures c.if-starts_with-2.false _ c.starts_with-3.ensures c.if-starts_with-3.true

pub returns : goal.returns
returns c =
    is_none c.args.s.now c.if-s-lt4.false _ c.starts_with.ensures c.if-starts_with.false _ c.starts_with-2.ensures c.if-starts_with-2.false _ c.starts_with-3.ensures c.if-starts_with-3.false
