use mathlib.Core.Path.{refl}
use lib.Ieee.{of_bits}
use Rattle.curve.proofs.on_value.Goals as goal

-- `curve::on_value` meets its contract. Assumes nothing.
pub returns : goal.returns
unfolding of_bits
returns c = refl
