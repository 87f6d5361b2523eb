use mathlib.Core.Path.{subst}
use native.Mathlib.Omega.{arith}
use Rattle.util.specs.Reader.{Verdict}
use Rattle.pose.specs.Pose.{Posed}
use Rattle.pose.specs.PoseCode.{Poses}
use Rattle.jnt.proofs.JntLaws.{pose_is_clip}
use Rattle.jnt.proofs.pose.Goals as goal

-- `jnt::pose` meets its contract. Assumes nothing.
pub returns : goal.returns
returns c =
    let a = c.args in
    subst (λ (v : Verdict Posed). Poses v c.clip.result a.out.now c.clip.new.out) (pose_is_clip a.s.now a.entry a.frame a.out.now (omega arith)) c.clip.ensures
