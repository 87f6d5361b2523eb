use Prim.Native.Nat.{◌+◌}
use mathlib.Core.Path.{ap}
use native.Mathlib.Omega.{arith}
use Rattle.animation.specs.Animation.{Referred}
use Rattle.animation.proofs.RotationLaws.{end_small}
use Rattle.animation.proofs.reference_end.Goals as goal

-- `animation::reference_end` meets its contract. Assumes nothing.
pub overflow_add-result : goal.overflow_add-result
overflow_add-result c =
    let a = c.args in
    let e = ap (λ (r : Referred). r.place + r.size) c.in-Pivot.ensures in
    let h = end_small a.t a.x (omega arith) (omega arith) in
    omega arith

pub overflow_add-result-in-Basis : goal.overflow_add-result-in-Basis
overflow_add-result-in-Basis c =
    let a = c.args in
    let e = ap (λ (r : Referred). r.place + r.size) c.in-Basis.ensures in
    let h = end_small a.t a.x (omega arith) (omega arith) in
    omega arith

pub returns-in-Pivot : goal.returns-in-Pivot
returns-in-Pivot c = ap (λ (r : Referred). r.place + r.size) c.in-Pivot.ensures

pub returns-in-Basis : goal.returns-in-Basis
returns-in-Basis c = ap (λ (r : Referred). r.place + r.size) c.in-Basis.ensures
