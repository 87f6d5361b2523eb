use mathlib.Core.Path.{refl, ap, ◌∙◌}
use native.Mathlib.Omega.{arith}
use lib.ListN.{length}
use lib.Seq.{length-sets}
use Rattle.pattern_section.specs.Written.{datum}
use Rattle.pattern_section.proofs.DrawnLaws.{datums_step, datums_end}
use Rattle.pattern_section.proofs.put_datums.Goals as goal

pub loop-i-init : goal.loop-i-init
loop-i-init c = (omega arith, omega arith, omega arith, refl, refl)

pub loop-i-preserved : goal.loop-i-preserved
loop-i-preserved c =
    let p = c.put_datum-to in
    let w = c.word32-count in
    let l = c.loop-i in
    let a = c.args in (
      omega arith,
      omega arith,
      omega arith,
      ap length p.ensures.1 ∙ length-sets l.out l.to (datum w.result l.keys) ∙ l.invariant.3,
      rw p.ensures.0 (datums_step a.n a.tracks.now l.i l.out p.new.out l.to l.keys w.result c.loop-i-test.true w.ensures p.ensures.1 ∙ l.invariant.4),
    )

pub returns : goal.returns
returns c =
    let l = c.loop-i in
    let a = c.args in
    (omega arith, datums_end a.n a.tracks.now l.i l.out l.to l.keys c.loop-i-test.false ∙ l.invariant.4)
