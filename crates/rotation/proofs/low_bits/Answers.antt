use Rattle.rotation.proofs.RotationLaws.{low_joined}
use Rattle.rotation.proofs.low_bits.Goals as goal

-- `rotation::low_bits` meets its contract. Assumes nothing.
pub returns : goal.returns
returns c = low_joined _ _ _ _ _
