use mathlib.Core.Path.{sym}
use Rattle.calls.specs.Kinds.{section_kind}
use Rattle.motion.proofs.kind.Goals as goal

-- `motion::kind` meets its contract. Assumes nothing.
pub returns : goal.returns
unfolding section_kind
returns c = sym c.read_stamp.ensures
