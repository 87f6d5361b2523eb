use mathlib.Core.Path.{refl}
use Rattle.writing.proofs.check.few.Goals as goal

-- `writing::check::few` meets its contract. Assumes nothing.
pub returns : goal.returns
returns c = refl
