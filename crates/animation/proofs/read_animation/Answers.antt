use Rattle.animation.proofs.ObjectLaws.{header_short, offsets_short, wrong_stamp, no_frames, many_objects, objects_refused, objects_whole}
use Rattle.util.proofs.TryLaws.{passed_on}
use Rattle.animation.proofs.read_animation.Goals as goal

-- `animation::read_animation` meets its contract. Assumes nothing.
pub returns-then-s-lt20 : goal.returns-then-s-lt20
returns-then-s-lt20 c = header_short c.args.s.now c.if-s-lt20.true

pub returns-then-s-objects : goal.returns-then-s-objects
returns-then-s-objects c = offsets_short c.args.s.now _ c.word16-objects.ensures c.if-s-objects.true

pub returns-then-not-starts_with : goal.returns-then-not-starts_with
returns-then-not-starts_with c =
    let a = c.args in
    wrong_stamp a.s.now _ c.word16-objects.ensures c.if-s-objects.false _ c.starts_with.ensures c.if-not-starts_with.true

pub returns-then-frames-eq0 : goal.returns-then-frames-eq0
returns-then-frames-eq0 c =
    let a = c.args in
    no_frames a.s.now _ c.word16-objects.ensures c.if-s-objects.false _ c.starts_with.ensures c.if-not-starts_with.false _ c.word16-frames.ensures c.if-frames-eq0.true

pub returns-then-objects-gt-MOST_OBJECTS : goal.returns-then-objects-gt-MOST_OBJECTS
returns-then-objects-gt-MOST_OBJECTS c =
    let a = c.args in
    many_objects a.s.now _ c.word16-objects.ensures c.if-s-objects.false _ c.starts_with.ensures c.if-not-starts_with.false _ c.word16-frames.ensures c.if-frames-eq0.false c.if-objects-gt-MOST_OBJECTS.true

pub returns-in_err-all : goal.returns-in_err-all
returns-in_err-all c =
    let a = c.args in
    rw (passed_on _ _ c.from_residual.ensures.1)
    (objects_refused a.s.now _ c.word16-objects.ensures c.if-s-objects.false _ c.starts_with.ensures c.if-not-starts_with.false _ c.word16-frames.ensures c.if-frames-eq0.false c.if-objects-gt-MOST_OBJECTS.false _ c.read_tables-tables.ensures _ c.in_err-all.ensures)

pub returns : goal.returns
returns c =
    let a = c.args in
    objects_whole a.s.now _ c.word16-objects.ensures c.if-s-objects.false _ c.starts_with.ensures c.if-not-starts_with.false _ c.word16-frames.ensures c.if-frames-eq0.false c.if-objects-gt-MOST_OBJECTS.false _ c.read_tables-tables.ensures _ _ c.in_ok-all.ensures
