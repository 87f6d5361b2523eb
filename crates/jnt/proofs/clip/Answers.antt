use mathlib.Core.List.{List}
use mathlib.Core.Path.{sym, ap, subst}
use Prim.Native.Nat.{ℕ}
use Rattle.animation.specs.AnimationCode.{WholeAnimation}
use Rattle.pose.specs.Pose.{posed_slice}
use Rattle.nitro.specs.Container.{jnt}
use Rattle.nitro.proofs.EntryLaws.{onward}
use Rattle.calls.specs.Calls.{clip}
use Rattle.calls.proofs.CallsLaws.{entry_denied}
use Rattle.jnt.proofs.JntLaws.{clip_told, hands_on}
use Rattle.jnt.proofs.clip.Goals as goal

-- `jnt::clip` meets its contract. Assumes nothing.
pub film-requires : goal.film-requires
film-requires c = subst (λ (l : List ℕ). WholeAnimation l c.in_ok-e.a) (sym (onward c.in_ok-e.e.offset c.args.s.now)) c.in_ok-e.ensures.whole

pub returns-in_err-e : goal.returns-in_err-e
returns-in_err-e c =
    let a = c.args in
    let k = entry_denied jnt a.s.now a.entry (clip a.first a.frames a.out.now) _ c.in_err-e.ensures in
    (hands_on _ _ _ c.from_residual.ensures.1 k, ap (posed_slice a.out.now) (sym k))

pub returns : goal.returns
returns c = clip_told c.args.s.now c.args.entry _ _ c.in_ok-e.ensures c.args.first c.args.frames c.args.out.now c.film.result _ c.film.ensures
