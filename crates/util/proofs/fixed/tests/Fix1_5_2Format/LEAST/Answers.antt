use lib.Ieee.{neg, of_bits, round}
use Rattle.util.specs.Fixed.{least, ratio}
use Rattle.util.proofs.fixed.tests.Fix1_5_2Format.LEAST.Goals as goal

pub returns : goal.returns
unfolding neg of_bits least ratio round
returns c = search
