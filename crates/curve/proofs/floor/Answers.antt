use mathlib.Core.Path.{sym}
use native.Mathlib.Nat.{le_trans}
use lib.Dec.{lit≤}
use Rattle.curve.proofs.FloorLaws as laws
use Rattle.curve.proofs.floor.Goals as goal

-- `curve::floor` meets its contract. Assumes nothing.
pub float_to_bits-b : goal.float_to_bits-b
float_to_bits-b c = laws.no_nan _ _ c.requires

pub returns-then-e-lt1023 : goal.returns-then-e-lt1023
returns-then-e-lt1023 c = sym (laws.floor_small _ (laws.held c.well_formed.0.1) c.requires c.if-e-lt1023.true)

pub overflow_sub-result : goal.overflow_sub-result
overflow_sub-result c = le_trans (laws.expo_le _ (laws.held c.well_formed.0.1) c.requires) (lit≤ tt)

pub returns : goal.returns
returns c = laws.floor_code _ (laws.held c.well_formed.0.1) c.requires c.if-e-lt1023.false
