use Prim.Native.Nat.{ℕ}
use mathlib.Core.Option.{Option}
use mathlib.Core.Path.{sym, ap, ◌∙◌}
use Rattle.util.specs.Reader.{answered}
use Rattle.util.proofs.TryLaws.{passed_on}
use Rattle.calls.specs.AnswersCode.{found}
use Rattle.player.specs.Player.{next}
use Rattle.player.specs.PlayerCode.{mode_means, player_means, player_answer_means}
use Rattle.player.proofs.StepLaws.{tick_early, tick_refused, ticks}
use Rattle.player.proofs.tick.Goals as goal

-- `player::tick` meets its contract. Assumes nothing.
pub returns-in_default : goal.returns-in_default
returns-in_default c =
    let a = c.args in
    sym (tick_early a.s.now (player_means a.p) (ap (found (λ i. i)) c.in_default.is))

pub returns-in_err-e : goal.returns-in_err-e
returns-in_err-e c =
    let a = c.args in
    ap player_answer_means (passed_on _ _ c.from_residual.ensures.1)
    ∙ sym (tick_refused a.s.now (player_means a.p) _ (ap (found (λ i. i)) c.in-Some.is) _ (sym c.in_err-e.ensures))

pub returns : goal.returns
returns c =
    let a = c.args in
    let is = ap (found (λ i. i)) c.in-Some.is in
    ap (λ (f : ℕ). answered (record { entry = found (λ i. i) a.p.picked; frame = f; mode = mode_means a.p.mode })) c.next.ensures
    ∙ (ap (λ (e : Option ℕ). answered (record { entry = e; frame = next (mode_means a.p.mode) c.in_ok-e.e.frames a.p.frame; mode = mode_means a.p.mode })) is
    ∙ sym (ticks a.s.now (player_means a.p) _ is _ _ (sym c.in_ok-e.ensures)))
