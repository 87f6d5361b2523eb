use lib.Ieee.{of_bits, round}
use Rattle.util.specs.Fixed.{greatest, ratio}
use Rattle.util.proofs.fixed.Fix1_19_12Format.GREATEST.Goals as goal

pub returns : goal.returns
unfolding of_bits greatest ratio round
returns c = search
