use mathlib.Core.Path.{sym, ap, ◌∙◌}
use native.Mathlib.Omega.{arith}
use Rattle.util.specs.Reader.{answered}
use Rattle.calls.specs.Calls.{rotation_curve, ask_object}
use Rattle.jnt.proofs.JntLaws.{ends_here, inside_here, told_here, hands_on}
use Rattle.jnt.proofs.rotation_curve.Goals as goal

-- `jnt::rotation_curve` meets its contract. Assumes nothing.
pub record_rotation-requires : goal.record_rotation-requires
record_rotation-requires c =
    let l = ends_here c.in_ok-off.ensures in
    ((inside_here c.in_ok-off.ensures c.object_at-c.ensures).rotation, omega (arith, c.well_formed.0))

pub returns-in_err-off : goal.returns-in_err-off
returns-in_err-off c = hands_on _ _ _ c.from_residual.ensures.1 (c.in_err-off.ensures (rotation_curve))

pub returns : goal.returns
unfolding ask_object
returns c = ap answered c.record_rotation.ensures ∙ sym (told_here c.in_ok-off.ensures c.object_at-c.ensures (rotation_curve))
