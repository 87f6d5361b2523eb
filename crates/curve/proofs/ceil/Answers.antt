use mathlib.Core.Path.{sym}
use native.Mathlib.Nat.{le_trans}
use lib.Dec.{lit≤}
use Rattle.curve.proofs.FloorLaws as laws
use Rattle.curve.proofs.ceil.Goals as goal

-- `curve::ceil` meets its contract. Assumes nothing.
pub float_to_bits-b : goal.float_to_bits-b
float_to_bits-b c = laws.no_nan _ _ c.requires

pub returns-then-b-eq0 : goal.returns-then-b-eq0
returns-then-b-eq0 c = sym (laws.ceil_zero _ (laws.held c.well_formed.0.1) c.requires c.if-b-eq0.true)

pub returns-then-e-lt1023 : goal.returns-then-e-lt1023
returns-then-e-lt1023 c = laws.ceil_small _ (laws.held c.well_formed.0.1) c.requires c.if-b-eq0.false c.if-e-lt1023.true

pub overflow_sub-s : goal.overflow_sub-s
overflow_sub-s c = le_trans (laws.expo_le _ (laws.held c.well_formed.0.1) c.requires) (lit≤ tt)

pub overflow_add-result : goal.overflow_add-result
overflow_add-result c = record { fits = laws.next_fits _ (laws.held c.well_formed.0.1) c.requires c.if-e-lt1023.false }

pub returns-then-lo-s : goal.returns-then-lo-s
returns-then-lo-s c = laws.ceil_same _ (laws.held c.well_formed.0.1) c.requires c.if-e-lt1023.false c.if-lo-s.true

pub returns-else-lo-s : goal.returns-else-lo-s
returns-else-lo-s c = laws.ceil_differ _ (laws.held c.well_formed.0.1) c.requires c.if-e-lt1023.false c.if-lo-s.false
