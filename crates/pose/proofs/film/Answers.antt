use Prim.Native.Nat.{ℕ, ◌*◌, ◌≤◌, ◌<◌}
use mathlib.Core.Path.{◌≡◌, refl, subst, ◌∙◌}
use native.Mathlib.Omega.{arith}
use Rattle.animation.specs.Animation.{Object, most_objects}
use Rattle.pose.specs.PoseCode.{Filmed}
use Rattle.pose.proofs.PoseLaws.{Shot, shot_none, shot_more, past_frames, too_small, filmed, floats_few, object_inside, object_found}
use Rattle.pose.proofs.film.Goals as goal

-- the floats can be counted
counted : (c : goal.Else-first-frames) → (c.args.a.objects ≤ most_objects) × (16 * (c.args.a.objects * c.args.frames) < 18446744073709551616)
counted c = floats_few c.args.s.now c.args.a c.requires (λ (i : ℕ). omega (arith, c.type_inv.s i)) c.args.frames (omega arith)

pub returns-then-first-frames : goal.returns-then-first-frames
returns-then-first-frames c = let a = c.args in λ w. past_frames w.held.objects a.a.objects a.first a.frames a.out.now w.count (omega arith)

pub overflow_mul-n : goal.overflow_mul-n
overflow_mul-n c = let k = counted c in omega (arith, k.0, k.1)

pub overflow_mul-n-2 : goal.overflow_mul-n-2
overflow_mul-n-2 c = let k = counted c in omega (arith, k.0, k.1)

pub returns-then-out-n : goal.returns-then-out-n
returns-then-out-n c =
    let a = c.args in
    λ w. too_small w.held.objects a.a.objects a.first a.frames a.out.now w.count (omega arith) c.if-out-n.true

pub loop-o-init : goal.loop-o-init
loop-o-init c =
    let a = c.args in
    (refl, λ w. shot_none w.held.objects a.a.objects a.first a.frames a.out.now)

pub film_object-requires : goal.film_object-requires
film_object-requires c =
    let a = c.args in
    let t = c.loop-o-test.true in
    (object_inside a.s.now a.a c.requires c.loop-o.o t c.object_at.result c.object_at.ensures, t, omega arith, omega (arith, c.loop-o.invariant.0))

pub loop-o-preserved : goal.loop-o-preserved
loop-o-preserved c =
    let a = c.args in
    let t = c.loop-o-test.true in
    let r = c.object_at.result in
    let l = c.loop-o.out in
    let after = c.film_object.new.out in (
      c.film_object.ensures.size ∙ c.loop-o.invariant.0,
      λ w.
          shot_more w.held.objects a.a.objects a.first a.frames a.out.now c.loop-o.o l after t (c.loop-o.invariant.1 w)
          (subst (λ (x : Object). Filmed x c.loop-o.o a.a.objects a.first a.frames l after) (object_found a.s.now a.a w c.loop-o.o t r c.object_at.ensures) c.film_object.ensures),
    )

pub returns : goal.returns
returns c =
    let a = c.args in
    let e : c.loop-o.o ≡ a.a.objects = omega arith in
    λ w.
    filmed w.held.objects a.a.objects a.first a.frames a.out.now w.count (omega arith) (omega arith) c.loop-o.out
    (subst (λ (o : ℕ). Shot w.held.objects a.a.objects a.first a.frames a.out.now o c.loop-o.out) e (c.loop-o.invariant.1 w))
