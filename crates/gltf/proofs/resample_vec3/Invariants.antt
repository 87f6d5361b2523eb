use Prim.Native.Nat.{◌+◌, ◌-◌, ◌*◌}
use mathlib.Core.Path.{◌≡◌}
use lib.ListN.{length}
use Rattle.animation.specs.AnimationCode.{axis_curves}
use Rattle.gltf.specs.Curve.{frames_of}
use Rattle.gltf.specs.CurveCode.{domain_means}
use Rattle.gltf.proofs.FrameLaws.{left}
use Rattle.gltf.proofs.ResampleLaws.{written}
use Rattle.gltf.proofs.resample_vec3.Given as goal

-- `gltf::resample_vec3` meets its contract. The loop's invariant: what is still to be written gives what the whole gives. Assumes nothing.
abbrev pub invariant-loop-k : goal.invariant-loop-k
invariant-loop-k l = (length (left (domain_means l.fn.d) l.k) + l.k ≡ length (frames_of (domain_means l.fn.d)))
    × (written l.default (axis_curves l.s l.a) l.out (3 * l.k) (left (domain_means l.fn.d) l.k) ≡ written l.default (axis_curves l.s l.a) l.initial.out 0 (frames_of (domain_means l.fn.d)))

abbrev pub decreases-loop-k : goal.decreases-loop-k
decreases-loop-k l = length (frames_of (domain_means l.fn.d)) - l.k
