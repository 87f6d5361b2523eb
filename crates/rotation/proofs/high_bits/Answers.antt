use Prim.Native.Nat.{◌/◌}
use mathlib.Core.Path.{◌≡◌, ◌∙◌, ap}
use native.Mathlib.Omega.{arith}
use Rattle.util.specs.Fixed.{fix1_0_12, fixed}
use Rattle.util.specs.Bits.{bits}
use Rattle.rotation.proofs.high_bits.Goals as goal

-- `rotation::high_bits` meets its contract. Assumes nothing.
pub returns : goal.returns
returns c =
    let x = c.args.x in
    let e : x / 8 ≡ bits x 3 16 = omega arith in
    c.read.ensures ∙ ap (fixed fix1_0_12) e
