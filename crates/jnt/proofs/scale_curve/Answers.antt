use mathlib.Core.Path.{sym, ◌∙◌}
use native.Mathlib.Omega.{arith}
use Rattle.animation.specs.Animation.{scale}
use Rattle.calls.specs.Calls.{curve, ask_object}
use Rattle.jnt.proofs.JntLaws.{ends_here, inside_here, told_here, hands_on}
use Rattle.jnt.proofs.scale_curve.Goals as goal

-- `jnt::scale_curve` meets its contract. Assumes nothing.
pub record_axis-requires-clause-inside : goal.record_axis-requires-clause-inside
record_axis-requires-clause-inside c =
    let i = (inside_here c.in_ok-off.ensures c.object_at-c.ensures).scale in
    (i.x, i.y, i.z)

pub record_axis-requires-clause-entry : goal.record_axis-requires-clause-entry
record_axis-requires-clause-entry c =
    let l = ends_here c.in_ok-off.ensures in
    omega (arith, c.well_formed.0)

pub returns-in_err-off : goal.returns-in_err-off
returns-in_err-off c = hands_on _ _ _ c.from_residual.ensures.1 (c.in_err-off.ensures (curve scale c.args.axis))

pub returns : goal.returns
unfolding ask_object
returns c = c.record_axis.ensures ∙ sym (told_here c.in_ok-off.ensures c.object_at-c.ensures (curve scale c.args.axis))
