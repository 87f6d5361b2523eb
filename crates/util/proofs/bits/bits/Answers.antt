use Rattle.util.proofs.BitsLaws.{field_is}
use Rattle.util.proofs.bits.bits.Goals as goal

-- `util::bits::bits` meets its contract. Assumes nothing.
pub returns : goal.returns
returns c = field_is 32 _ _ _ c.requires.0 c.requires.1
