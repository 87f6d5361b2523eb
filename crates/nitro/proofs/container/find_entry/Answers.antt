use Rattle.util.proofs.ReadsLaws.{stops}
use Rattle.util.proofs.TryLaws.{refuses}
use Rattle.nitro.specs.Container.{entry}
use Rattle.nitro.proofs.container.find_entry.Goals as goal

-- `nitro::container::find_entry` meets its contract. Assumes nothing.
pub entry_in-requires : goal.entry_in-requires
entry_in-requires c = c.in_ok-block.ensures

pub returns-in_err-block : goal.returns-in_err-block
unfolding entry
returns-in_err-block c = λ k. refuses _ _ c.from_residual.ensures.1 (stops _ _ _ _ _ c.in_err-block.ensures.reads)
