use mathlib.Core.Path.{sym, subst, ◌∙◌}
use Rattle.std.specs.Prelude.{Ok}
use Rattle.util.specs.Reader.{run}
use Rattle.util.proofs.ReadsLaws.{alike}
use Rattle.animation.specs.declared.TRSCurves.{TRSCurves}
use Rattle.animation.specs.Animation.{object}
use Rattle.animation.specs.AnimationCode.{ObjectReads}
use Rattle.util.proofs.TryLaws.{too_short}
use Rattle.animation.proofs.ObjectLaws.{object_short, by_flags, still_counted}
use Rattle.animation.proofs.read_object.Goals as goal

-- `animation::read_object` meets its contract. Assumes nothing.
pub returns-in_err-far : goal.returns-in_err-far
returns-in_err-far c =
    let a = c.args in
    let h = c.in_err-far.ensures in
    too_short _ _ c.from_residual.ensures.1 h.1 (object_short a.t.pivot a.t.basis a.p a.reach a.s.now h.0)

pub returns-then-bit : goal.returns-then-bit
unfolding run
returns-then-bit c =
    let a = c.args in
    let h = c.in_ok-far.ensures in
    subst (λ (x : TRSCurves). ObjectReads (object a.t.pivot a.t.basis a.p) a.t a.s.now a.reach (Ok (record { reach = c.in_ok-far.far; samples = 0; curves = x }))) (sym c.still_curves.ensures)
    (record {
      reads = by_flags a.t.pivot a.t.basis a.p a.reach a.s.now h.0 _ c.word16-flags.ensures _ h.1 _ (sym c.if-bit.true ∙ c.bit.ensures);
      holds = still_counted a.t a.s.now;
    })

pub returns : goal.returns
returns c =
    let a = c.args in
    let h = c.in_ok-far.ensures in
    alike (by_flags a.t.pivot a.t.basis a.p a.reach a.s.now h.0 _ c.word16-flags.ensures _ h.1 _ (sym c.if-bit.false ∙ c.bit.ensures)) c.read_animated.ensures
