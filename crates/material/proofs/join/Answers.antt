use borrow.Author.Rules.{rules}
use mathlib.Core.Bool.{true≢false}
use mathlib.Core.Path.{sym, ap, ◌∙◌}
use Rattle.std.specs.Option.{is_some}
use Rattle.material.proofs.JoinLaws.{mapped, empty, neither, one}
use Rattle.material.proofs.join.Goals.{else-is_none-via-then-is_none+else-is_none-2, else-is_none-via-else-is_none}
use Rattle.material.proofs.join.Goals as goal

-- `material::join` meets its contract. Assumes nothing.
pub returns-then-eq : goal.returns-then-eq
returns-then-eq c = λ frame keys w. empty frame keys _ _ _ w (sym c.eq.ensures ∙ c.if-eq.true)

pub returns-then-is_none-2 : goal.returns-then-is_none-2
returns-then-is_none-2 c = λ frame keys w.
    neither frame keys _ _ _ w (sym c.eq.ensures ∙ c.if-eq.false) c.if-is_none.ensures (ap is_some (sym c.flatten.ensures) ∙ (sym c.map-choice.ensures.variant ∙ c.if-is_none-2.ensures))

pub returns : goal.returns
returns c = λ frame keys w.
    let picked = mapped _ c.flatten.result c.map-choice.result c.map-choice.ensures.cases (λ k y e. search rules) in
    rw c.unwrap_or-shift.ensures
    (one frame keys _ c.args.shift c.args.key c.map-choice.result w (sym c.eq.ensures ∙ c.if-eq.false) (rw (sym c.flatten.ensures) picked)
    (λ p q. elim c.else-is_none.branch [
      | else-is_none-via-then-is_none+else-is_none-2 v ↦ true≢false (sym v.if-is_none-2.ensures ∙ q)
      | else-is_none-via-else-is_none v ↦ true≢false (sym v.if-is_none.ensures ∙ p)
    ]))
