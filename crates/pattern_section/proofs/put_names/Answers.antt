use Prim.Native.Nat.{◌+◌, ◌-◌, ◌*◌}
use mathlib.Core.Path.{◌≡◌, refl, ap, ◌∙◌}
use native.Mathlib.Omega.{arith}
use lib.ListN.{length, take, drop}
use lib.Seq.{length-sets}
use Rattle.pattern_section.proofs.DrawnLaws.{name_length, names_step, names_end}
use Rattle.pattern_section.proofs.put_names.Goals as goal

pub loop-i-init : goal.loop-i-init
loop-i-init c = (omega arith, omega arith, refl, refl)

pub loop-i-preserved : goal.loop-i-preserved
loop-i-preserved c =
    let p = c.put_bytes-to in
    let l = c.loop-i in
    let a = c.args in
    let x = take 16 (drop (20 * l.i) a.tracks.now) in
    let n : length x ≡ 16 = name_length a.n a.tracks.now l.i c.loop-i-test.true (omega arith) in
    let q : 20 * l.i + 16 - 20 * l.i ≡ 16 = omega arith in
    let e = rw q at p.ensures in (
      omega arith,
      omega arith,
      ap length e.1 ∙ length-sets l.out l.to x ∙ l.invariant.2,
      rw (e.0, n) (names_step a.n a.tracks.now l.i l.out p.new.out x l.to c.loop-i-test.true refl n e.1 ∙ l.invariant.3),
    )

pub returns : goal.returns
returns c =
    let l = c.loop-i in
    let a = c.args in
    (omega arith, names_end a.n a.tracks.now l.i l.out l.to c.loop-i-test.false ∙ l.invariant.3)
