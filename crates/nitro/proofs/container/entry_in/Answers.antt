use Rattle.nitro.proofs.ContainerLaws.{no_entry, entry_stands}
use Rattle.nitro.proofs.container.entry_in.Goals as goal

-- `nitro::container::entry_in` meets its contract. Assumes nothing.
pub returns-then-b-i : goal.returns-then-b-i
returns-then-b-i c = let a = c.args in λ k. record { reads = no_entry a.s.now a.i a.b c.requires c.if-b-i.true k; holds = tt }

pub returns : goal.returns
returns c =
    let a = c.args in
    entry_stands a.s.now a.i a.b c.requires c.if-b-i.false _ c.word32.ensures
