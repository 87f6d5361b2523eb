use mathlib.Core.Path.{sym}
use native.Mathlib.Omega.{arith}
use Rattle.pattern.specs.PatternCode.{key_means}
use Rattle.pattern.proofs.PatternLaws.{chosen}
use Rattle.pattern.proofs.sample.Goals as goal

-- `pattern::sample` meets its contract. Assumes nothing.
pub returns : goal.returns
returns c =
    let a = c.args in
    chosen a.s.now a.keys a.frame c.first_later.result _ (key_means c.key_at.result) c.first_later.ensures.0 (sym c.saturating_sub.ensures) (omega arith) c.key_at.ensures
