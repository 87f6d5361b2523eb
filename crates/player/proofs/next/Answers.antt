use mathlib.Core.Path.{sym, ap, ◌∙◌}
use native.Mathlib.Omega.{arith}
use Rattle.player.specs.Player.{at_last}
use Rattle.player.specs.PlayerCode.{mode_means}
use Rattle.player.proofs.StepLaws.{no_frames, one_more, at_last_lem}
use Rattle.player.proofs.next.Goals as goal

-- `player::next` meets its contract. Assumes nothing.
pub returns-then-frames-eq0 : goal.returns-then-frames-eq0
returns-then-frames-eq0 c = sym (no_frames _ _ _ (omega arith))

pub returns-then-frame-frames : goal.returns-then-frame-frames
returns-then-frame-frames c = sym (one_more _ _ _ c.if-frames-eq0.false (omega arith))

pub returns-in-Hold : goal.returns-in-Hold
returns-in-Hold c =
    let a = c.args in
    sym (at_last_lem (mode_means a.mode) a.frames a.frame c.if-frames-eq0.false c.if-frame-frames.false ∙ ap (λ m. at_last (mode_means m) a.frame) c.in-Hold.is)

pub returns-in-Loop : goal.returns-in-Loop
returns-in-Loop c =
    let a = c.args in
    sym (at_last_lem (mode_means a.mode) a.frames a.frame c.if-frames-eq0.false c.if-frame-frames.false ∙ ap (λ m. at_last (mode_means m) a.frame) c.in-Loop.is)
