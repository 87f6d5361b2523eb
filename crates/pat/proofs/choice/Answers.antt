use mathlib.Core.Path.{sym, ◌∙◌}
use Rattle.pattern.specs.PatternCode.{key_means}
use Rattle.pat.proofs.PatLaws.{chosen_none, chosen_some}
use Rattle.pat.proofs.choice.Goals as goal

-- `pat::choice` meets its contract. Assumes nothing.
pub returns-then-keys-eq0 : goal.returns-then-keys-eq0
returns-then-keys-eq0 c =
    let f = c.args.frame in
    sym (c.in_ok-keys.ensures.keys.choices f ∙ chosen_none _ _ f c.if-keys-eq0.true)

pub returns : goal.returns
returns c =
    let f = c.args.frame in
    let key = c.sample-key in
    sym (c.in_ok-keys.ensures.keys.choices f ∙ chosen_some _ _ f (key_means key.result) c.if-keys-eq0.false key.ensures)
