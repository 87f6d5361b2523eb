use Prim.Native.Nat.{ℕ, ◌-◌, ◌%◌}
use mathlib.Core.Path.{refl, ap}
use native.Mathlib.Omega.{arith}
use lib.Pow.{pow_pos}
use Rattle.curve.specs.Curve.{counted_from}
use Rattle.curve.specs.CurveCode.{list_record_means}
use Rattle.curve.proofs.record_list.Goals as goal

-- `curve::record_list` meets its contract. Assumes nothing.
pub nonzero_rem-rest : goal.nonzero_rem-rest
nonzero_rem-rest c = omega (arith, c.power.ensures, pow_pos c.args.l.rate)

pub returns : goal.returns
returns c =
    let a = c.args in
    let l = a.l in
    (ap (λ (m : ℕ). counted_from a.entry (list_record_means (record { list = l; rest = (l.end - l.start) % m }))) c.power.ensures, refl)
