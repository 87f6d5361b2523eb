use Rattle.util.proofs.ReadsLaws.{alike, goes_on, stops}
use Rattle.animation.specs.Animation.{rotation}
use Rattle.util.proofs.TryLaws.{refuses}
use Rattle.animation.proofs.read_rotation_list.Goals as goal

-- `animation::read_rotation_list` meets its contract. Assumes nothing.
pub returns-in_err-fields : goal.returns-in_err-fields
unfolding rotation
returns-in_err-fields c = refuses _ _ c.from_residual.ensures.1 (stops _ _ _ _ _ c.in_err-fields.ensures.reads)

pub returns : goal.returns
unfolding rotation
returns c = alike (goes_on _ _ _ _ _ _ c.in_ok-fields.ensures.reads) c.read_references.ensures
