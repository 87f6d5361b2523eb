use Prim.Native.Nat.{ℕ, suc, ◌+◌}
use mathlib.Core.List.{List}
use mathlib.Core.Path.{◌≡◌, sym, ap, ◌∙◌}
use native.Mathlib.Omega.{arith}
use borrow.Author.Rules.{rules}
use lib.ListN.{length}
use Rattle.animation.specs.AnimationCode.{axis_curves}
use Rattle.gltf.specs.Curve.{Domain, frames_of, sample_axes}
use Rattle.gltf.specs.CurveCode.{domain_means}
use Rattle.gltf.proofs.FrameLaws.{left, all_left, frame_below, next_left}
use Rattle.gltf.proofs.ResampleLaws.{written, write_none, write_frame}
use Rattle.gltf.proofs.resample_vec3.Goals as goal

-- `gltf::resample_vec3` meets its contract. Assumes nothing.
pub loop-k-init : goal.loop-k-init
loop-k-init c =
    let a = c.args in
    let e = sym (all_left (domain_means a.d)) in
    (omega (arith, ap length e), ap (λ (fs : List ℕ). written a.default (axis_curves a.s.now a.a) a.out.now 0 fs) e)

pub overflow_cast-frame-in-loop-k-2 : goal.overflow_cast-frame-in-loop-k-2
overflow_cast-frame-in-loop-k-2 c = let h = frame_below _ _ _ _ (ap domain_means c.in-Sampled.is) c.requires.1 _ c.loop-k.invariant.0 (omega arith) in omega arith

pub loop-k-preserved : goal.loop-k-preserved
loop-k-preserved c =
    let l = c.loop-k in
    let e = next_left _ _ _ _ (ap domain_means c.in-Sampled.is) c.requires.1 l.k l.invariant.0 (omega arith) in
    let less : length (left (domain_means c.args.d) l.k) ≡ suc (length (left (domain_means c.args.d) (l.k + 1))) = ap length e in
    (omega arith, write_frame _ _ l.out l.k _ _ _ _ e c.sample_axes-v.ensures ∙ l.invariant.1)

pub returns-in-None : goal.returns-in-None
unfolding sample_axes frames_of
returns-in-None c = search rules

pub returns-after-loop-k : goal.returns-after-loop-k
returns-after-loop-k c =
    let e = ap (λ (d : Domain). length (frames_of d)) (ap domain_means c.in-Sampled.is) in
    write_none _ _ _ _ _ (omega arith) ∙ c.loop-k.invariant.1
