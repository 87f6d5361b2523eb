use Prim.Native.Nat.{ℕ}
use mathlib.Core.Path.{◌≡◌, subst}
use native.Mathlib.Omega.{arith}
use Rattle.animation.specs.AnimationCode.{object_curves}
use Rattle.pose.specs.PoseCode.{Filmed}
use Rattle.pose.proofs.PoseLaws.{place_inside, film_none, film_more}
use Rattle.pose.proofs.film_object.Goals as goal

-- `pose::film_object` meets its contract. Assumes nothing.
pub loop-f-init : goal.loop-f-init
loop-f-init c = film_none _ _ _ _ _

pub loop-f-preserved : goal.loop-f-preserved
loop-f-preserved c =
    let a = c.args in
    let l = c.loop-f in
    let h = place_inside a.n a.o l.f a.frames c.requires.1 c.loop-f-test.true in
    rw c.put_floats.ensures (film_more _ a.o a.n a.first a.out.now l.f l.out c.requires.1 (omega (arith, h)) l.invariant _ c.sample_at-m.ensures)

pub returns : goal.returns
returns c =
    let a = c.args in
    let e : c.loop-f.f ≡ a.frames = omega arith in
    subst (λ (f : ℕ). Filmed (object_curves a.t a.s.now a.c) a.o a.n a.first f a.out.now c.loop-f.out) e c.loop-f.invariant
