use mathlib.Core.Path.{refl}
use lib.Ieee.{of_bits}
use Rattle.curve.specs.Curve.{mix}
use Rattle.curve.proofs.F64Mix.lerp.Goals as goal

-- `lerp` of `f64` meets its contract. Assumes nothing.
pub returns : goal.returns
unfolding mix of_bits
returns c = refl
