use lib.Ieee.{of_bits, round}
use Rattle.util.specs.Fixed.{greatest, ratio}
use Rattle.util.proofs.fixed.tests.Fix1_5_2Format.GREATEST.Goals as goal

pub returns : goal.returns
unfolding of_bits greatest ratio round
returns c = search
