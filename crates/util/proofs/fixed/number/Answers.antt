use Prim.Native.Nat.{◌-◌}
use native.Mathlib.Omega.{arith}
use Rattle.util.proofs.FixedLaws.{signed_fits, number_law}
use Rattle.util.proofs.fixed.number.Goals as goal

-- `util::fixed::number` meets its contract. Assumes nothing.
pub signed-integer-requires : goal.signed-integer-requires
signed-integer-requires c =
    let a = c.args in
    signed_fits (record { whole = a.width - 1 - a.fraction; fraction = a.fraction }) (omega arith) a.width (omega arith) a.x _ c.bits.ensures

pub returns : goal.returns
returns c =
    let a = c.args in
    number_law _ (omega arith) a.width (omega arith) a.x _ c.bits.ensures _ c.signed-integer.ensures
