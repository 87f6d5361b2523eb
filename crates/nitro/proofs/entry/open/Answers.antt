use Rattle.std.proofs.Common.{rules}
use Rattle.nitro.specs.ContainerCode.{kind_means}
use Rattle.util.proofs.TryLaws.{refuses}
use Rattle.nitro.proofs.EntryLaws.{open_unstamped, open_other}
use Rattle.nitro.proofs.entry.open.Goals as goal

-- `nitro::entry::open` meets its contract. Assumes nothing.
pub returns-in_err-read_stamp : goal.returns-in_err-read_stamp
returns-in_err-read_stamp c =
    let a = c.args in
    refuses _ _ c.from_residual.ensures.1 (open_unstamped a.s.now a.i (kind_means a.kind) _ c.in_err-read_stamp.ensures)

pub returns-else-eq : goal.returns-else-eq
returns-else-eq c =
    let a = c.args in
    record { reads = open_other a.s.now a.i _ a.kind c.in_ok-read_stamp.ensures (λ q. search rules); holds = tt }
