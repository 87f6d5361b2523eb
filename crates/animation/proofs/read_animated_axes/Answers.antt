use Prim.Native.Nat.{ℕ, ◌+◌}
use mathlib.Core.Bool.{Bool, cond}
use mathlib.Core.Path.{refl, sym, ap, subst, ◌∙◌}
use native.Mathlib.Omega.{arith}
use lib.Dec.{eqb}
use Rattle.util.specs.Bits.{bits}
use Rattle.util.specs.Reader.{done, run}
use Rattle.util.proofs.ReadsLaws.{alike}
use Rattle.std.specs.Prelude.{Ok}
use Rattle.animation.specs.declared.AxisCurves.{AxisCurves}
use Rattle.animation.specs.Animation.{no_axes, axes, animated_axes}
use Rattle.animation.specs.AnimationCode.{triple_means, AxesReads}
use Rattle.animation.proofs.read_animated_axes.Goals as goal

-- `animation::read_animated_axes` meets its contract. Assumes nothing.
pub returns-then-is_clear : goal.returns-then-is_clear
unfolding animated_axes
returns-then-is_clear c =
    let a = c.args in
    let e = sym c.if-is_clear.true ∙ (c.is_clear.ensures ∙ ap (λ (n : ℕ). eqb (bits a.flags n (n + 2)) 0) c.left_out_bit.ensures.0) in
    let f = ap (λ (b : Bool). run (cond b (axes (triple_means a.which) a.flags a.at.pos) (done (no_axes, a.at.pos))) a.s.now a.at.reach) (sym e) in
    alike f c.read_axes.ensures

pub returns-else-is_clear : goal.returns-else-is_clear
unfolding animated_axes run
returns-else-is_clear c =
    let a = c.args in
    let e = sym c.if-is_clear.false ∙ (c.is_clear.ensures ∙ ap (λ (n : ℕ). eqb (bits a.flags n (n + 2)) 0) c.left_out_bit.ensures.0) in
    let f = ap (λ (b : Bool). run (cond b (axes (triple_means a.which) a.flags a.at.pos) (done (no_axes, a.at.pos))) a.s.now a.at.reach) (sym e) in
    subst (λ (x : AxisCurves). AxesReads (triple_means a.which) (animated_axes (triple_means a.which) a.flags a.at.pos) a.s.now a.at.reach (a.at.pos + 24) (Ok (record { curves = x; at = a.at; samples = 0 }))) (sym c.no_axes.ensures) (record { reads = f; holds = (record { x = tt; y = tt; z = tt }, omega arith, refl) })
