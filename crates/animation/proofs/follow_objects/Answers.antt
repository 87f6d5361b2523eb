use Prim.Native.Nat.{ℕ}
use mathlib.Core.Path.{refl, ◌∙◌}
use native.Mathlib.Omega.{arith}
use Rattle.util.specs.View.{little}
use Rattle.util.proofs.Each.{items_all, items_end, item_whole, item_refused}
use Rattle.animation.specs.Animation.{object, object_samples}
use Rattle.animation.proofs.FiniteLaws.{object_few}
use Rattle.util.proofs.TryLaws.{passed_on}
use Rattle.animation.proofs.follow_objects.Goals as goal

-- `animation::follow_objects` meets its contract. Assumes nothing.
pub returns-in_err-item : goal.returns-in_err-item
returns-in_err-item c =
    let a = c.args in
    rw (passed_on _ _ c.from_residual.ensures.1)
    (item_refused (object a.t.pivot a.t.basis) a.s.now 2 little 20 a.n 0 object_samples c.loop-k.k c.loop-k.far c.loop-k.samples (omega arith) _ c.word16.ensures _ c.in_err-item.ensures _ refl
    ∙ (c.loop-k.invariant.1 ∙ items_all (object a.t.pivot a.t.basis) a.s.now 2 little 20 a.n 0 object_samples a.reach))

-- an object's lists are short, so the sum is far from wrapping
pub overflow_add-samples : goal.overflow_add-samples
overflow_add-samples c =
    let a = c.args in
    let k = object_few a.t.pivot a.t.basis a.s.now (λ (i : ℕ). omega (arith, c.type_inv.s i)) _ _ _ _ c.in_ok-item.ensures in
    omega arith

pub loop-k-preserved : goal.loop-k-preserved
loop-k-preserved c =
    let a = c.args in
    let k = object_few a.t.pivot a.t.basis a.s.now (λ (i : ℕ). omega (arith, c.type_inv.s i)) _ _ _ _ c.in_ok-item.ensures in
    (omega arith, item_whole (object a.t.pivot a.t.basis) a.s.now 2 little 20 a.n 0 object_samples c.loop-k.k c.loop-k.far c.loop-k.samples (omega arith) _ c.word16.ensures _ c.in_ok-item.ensures _ _ refl ∙ c.loop-k.invariant.1)

pub returns : goal.returns
returns c =
    let l = c.loop-k in
    let a = c.args in
    items_end (object a.t.pivot a.t.basis) a.s.now 2 little 20 a.n 0 object_samples l.k l.far l.samples (omega arith)
    ∙ (l.invariant.1 ∙ items_all (object a.t.pivot a.t.basis) a.s.now 2 little 20 a.n 0 object_samples a.reach)
