use mathlib.Core.Path.{refl}
use Rattle.util.proofs.FixedLaws.{twos_back, twos_in_float}
use Rattle.util.proofs.fixed.signed.Goals as goal

-- `util::fixed::signed` meets its contract. Assumes nothing.
pub int_to_float-result : goal.int_to_float-result
int_to_float-result c =
    rw (c.signed_integer.ensures, twos_back _ _ c.ranges.half.fits c.requires) (twos_in_float _ _ c.ranges.half.fits c.requires)

pub returns : goal.returns
returns c =
    rw (c.signed_integer.ensures, twos_back _ _ c.ranges.half.fits c.requires) refl
