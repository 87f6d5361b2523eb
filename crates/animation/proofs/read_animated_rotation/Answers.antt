use mathlib.Core.Bool.{Bool, cond}
use mathlib.Core.Path.{sym, ap, ◌∙◌}
use native.Mathlib.Omega.{arith}
use Rattle.util.specs.Bits.{bit}
use Rattle.util.specs.Reader.{done, run}
use Rattle.util.proofs.ReadsLaws.{alike}
use Rattle.curve.specs.Curve.{none}
use Rattle.animation.specs.Animation.{rotation, animated_rotation}
use Rattle.animation.proofs.read_animated_rotation.Goals as goal

-- `animation::read_animated_rotation` meets its contract. Assumes nothing.
pub returns-then-not-is_clear : goal.returns-then-not-is_clear
unfolding animated_rotation run
returns-then-not-is_clear c =
    let a = c.args in
    record {
      reads = ap (λ (b : Bool). run (cond b (rotation a.t.pivot a.t.basis (bit a.flags 8) a.at.pos) (done (none, a.at.pos))) a.s.now a.at.reach) (sym c.is_clear.ensures ∙ c.if-not-is_clear.true);
      holds = (tt, omega arith);
    }

pub returns-then-bit : goal.returns-then-bit
unfolding animated_rotation
returns-then-bit c =
    let a = c.args in
    alike
    (ap (λ (b : Bool). run (cond b (rotation a.t.pivot a.t.basis (bit a.flags 8) a.at.pos) (done (none, a.at.pos))) a.s.now a.at.reach) (sym c.is_clear.ensures ∙ c.if-not-is_clear.false)
    ∙ ap (λ (b : Bool). run (rotation a.t.pivot a.t.basis b a.at.pos) a.s.now a.at.reach) (sym c.bit.ensures ∙ c.if-bit.true))
    c.read_constant_rotation.ensures

pub returns-else-bit : goal.returns-else-bit
unfolding animated_rotation
returns-else-bit c =
    let a = c.args in
    alike
    (ap (λ (b : Bool). run (cond b (rotation a.t.pivot a.t.basis (bit a.flags 8) a.at.pos) (done (none, a.at.pos))) a.s.now a.at.reach) (sym c.is_clear.ensures ∙ c.if-not-is_clear.false)
    ∙ ap (λ (b : Bool). run (rotation a.t.pivot a.t.basis b a.at.pos) a.s.now a.at.reach) (sym c.bit.ensures ∙ c.if-bit.false))
    c.read_rotation_list.ensures
