use Prim.Native.Nat.{ℕ, ◌-◌}
use mathlib.Core.List.{List}
use mathlib.Core.Path.{sym, ap, ◌∙◌}
use lib.ListN.{length, take, drop}
use Rattle.animation.specs.Animation.{Axes, default_of}
use Rattle.animation.specs.AnimationCode.{triple_means}
use Rattle.animation.proofs.ObjectLaws.{triple_inside, triple_axes}
use Rattle.gltf.specs.Curve.{resample, slice_of}
use Rattle.gltf.specs.CurveCode.{frames_means}
use Rattle.calls.specs.Calls.{resampled, ask_object}
use Rattle.jnt.proofs.JntLaws.{entry_here, inside_here, told_here, hands_on}
use Rattle.jnt.proofs.resample.Goals as goal

-- `jnt::resample` meets its contract. Assumes nothing.
pub object_at-requires : goal.object_at-requires
object_at-requires c = entry_here c.in_ok-off.ensures

pub resample_triple-requires : goal.resample_triple-requires
resample_triple-requires c = triple_inside _ _ _ (inside_here c.in_ok-off.ensures c.object_at.ensures) c.args.which

pub returns-in_err-off : goal.returns-in_err-off
returns-in_err-off c =
    let a = c.args in
    let k = c.in_err-off.ensures (resampled (triple_means a.which) a.out.now a.place) in
    (hands_on (frames_means a.out.now) _ _ c.from_residual.ensures.1 k, ap (slice_of a.out.now) (sym k))

pub returns : goal.returns
unfolding ask_object
returns c =
    let a = c.args in
    let l : List ℕ = take (length a.s.now - c.in_ok-off.off) (drop c.in_ok-off.off a.s.now) in
    let e =
    ap (λ (x : Axes). resample (default_of (triple_means a.which)) x a.out.now a.place) (sym (triple_axes c.in_ok-off.a.tables l c.object_at.result a.which))
    ∙ sym (told_here c.in_ok-off.ensures c.object_at.ensures (resampled (triple_means a.which) a.out.now a.place)) in
    (c.resample_triple.ensures.0 ∙ e, c.resample_triple.ensures.1 ∙ ap (slice_of a.out.now) e)
