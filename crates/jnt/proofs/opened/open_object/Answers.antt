use mathlib.Core.Path.{sym, subst}
use Rattle.util.proofs.TryLaws.{passed_on}
use Rattle.nitro.specs.Container.{jnt}
use Rattle.calls.specs.Calls.{of_object}
use Rattle.calls.proofs.CallsLaws.{entry_denied}
use Rattle.jnt.specs.OpenedCode.{ObjectOpens}
use Rattle.jnt.proofs.JntLaws.{no_object, object_found}
use Rattle.jnt.proofs.opened.open_object.Goals as goal

-- `jnt::opened::open_object` meets its contract. Assumes nothing.
pub returns-in_err-e : goal.returns-in_err-e
returns-in_err-e c =
    let a = c.args in
    subst (ObjectOpens a.s.now a.entry a.object) (sym (passed_on _ _ c.from_residual.ensures.1))
    (λ q. entry_denied jnt a.s.now a.entry (of_object a.object q) _ c.in_err-e.ensures)

pub returns-then-a-object : goal.returns-then-a-object
returns-then-a-object c = no_object c.args.s.now c.args.entry _ _ c.in_ok-e.ensures c.args.object c.if-a-object.true

pub returns : goal.returns
returns c = object_found c.args.s.now c.args.entry _ _ c.in_ok-e.ensures c.args.object c.if-a-object.false
