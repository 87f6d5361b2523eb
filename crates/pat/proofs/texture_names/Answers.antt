use mathlib.Core.Path.{sym, ap, ◌∙◌}
use Rattle.util.proofs.TryLaws.{passed_on}
use Rattle.nitro.specs.Container.{pat}
use Rattle.calls.specs.AnswersCode.{list_answer_means}
use Rattle.calls.proofs.CallsLaws.{entry_denied}
use Rattle.calls.specs.Calls.{texture_names}
use Rattle.pat.proofs.PatLaws.{textures_of}
use Rattle.pat.proofs.texture_names.Goals as goal

-- `pat::texture_names` meets its contract. Assumes nothing.
pub returns-in_err-e : goal.returns-in_err-e
returns-in_err-e c =
    let a = c.args in
    ap list_answer_means (passed_on _ _ c.from_residual.ensures.1) ∙ sym (entry_denied pat a.s.now a.entry texture_names _ c.in_err-e.ensures)

pub returns : goal.returns
returns c = let a = c.args in textures_of a.s.now a.entry _ _ c.in_ok-e.ensures
