use Rattle.util.proofs.ReadsLaws.{alike}
use Rattle.nitro.proofs.ContainerLaws.{size_short, header_run}
use Rattle.nitro.proofs.container.read_section.Goals as goal

-- `nitro::container::read_section` meets its contract. Assumes nothing.
pub returns-then-s-lt8 : goal.returns-then-s-lt8
returns-then-s-lt8 c = record { reads = size_short c.args.s.now c.if-s-lt8.true; holds = tt }

pub returns : goal.returns
returns c = alike (header_run c.args.s.now c.if-s-lt8.false) (c.read.ensures 8)
