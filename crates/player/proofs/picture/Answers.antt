use mathlib.Core.Path.{◌≡◌, sym, ap, ◌∙◌}
use Rattle.std.specs.Prelude.{ℕ, Result, Err}
use Rattle.std.specs.Option.{ok_or}
use Rattle.util.specs.declared.refusal.Refusal.{Refusal}
use Rattle.util.specs.declared.refusal.Refusal.TheVariants.{NothingPicked}
use Rattle.util.specs.RefusalCode.{number_of}
use Rattle.util.specs.Reader.{denied}
use Rattle.util.proofs.TryLaws.{passed_on}
use Rattle.nitro.specs.ContainerCode.{kind_means}
use Rattle.calls.specs.AnswersCode.{found}
use Rattle.player.specs.PlayerCode.{player_means, picture_answer_means}
use Rattle.player.proofs.StepLaws.{picture_early, picture_refused, pictures}
use Rattle.player.proofs.picture.Goals as goal

-- `player::picture` meets its contract. Assumes nothing.
pub returns-in_err-entry : goal.returns-in_err-entry
returns-in_err-entry c =
    let a = c.args in
    let e = c.in_err-entry.ensures in
    let v : ◌≡◌ {A = Result ℕ Refusal} (Err c.in_err-entry.field-0.0) (Err NothingPicked) = e.value ∙ ap (λ o. ok_or o NothingPicked) e.ok_part in
    let q : c.in_err-entry.field-0.0 ≡ NothingPicked = cc in
    ap picture_answer_means (passed_on _ _ c.from_residual.ensures.1)
    ∙ (ap (λ (r : Refusal). denied (number_of r)) q ∙ sym (picture_early a.s.now (player_means a.p) (ap (found (λ i. i)) e.ok_part) a.index))

pub returns-in_err-kind : goal.returns-in_err-kind
returns-in_err-kind c =
    let a = c.args in
    ap picture_answer_means (passed_on _ _ c.from_residual-in_err-kind.ensures.1)
    ∙ sym (picture_refused a.s.now (player_means a.p) _ (ap (found (λ i. i)) c.in_ok-entry.ensures.ok_part) _ (sym c.in_err-kind.ensures) a.index)

pub returns : goal.returns
returns c =
    let a = c.args in
    c.shown_of.ensures
    ∙ sym (pictures a.s.now (player_means a.p) _ (ap (found (λ i. i)) c.in_ok-entry.ensures.ok_part) _ (kind_means c.in_ok-kind.kind) (sym c.in_ok-kind.ensures) a.index)
