use mathlib.Core.Path.{sym, ap, ◌∙◌}
use Rattle.util.specs.ReaderCode.{verdict}
use Rattle.util.proofs.TryLaws.{passed_on}
use Rattle.info_block.specs.NameCode.{name_means}
use Rattle.nitro.specs.Container.{srt}
use Rattle.calls.proofs.CallsLaws.{entry_denied}
use Rattle.calls.specs.Calls.{material_name}
use Rattle.srt.proofs.SrtLaws.{name_of}
use Rattle.srt.proofs.track_name.Goals as goal

-- `srt::track_name` meets its contract. Assumes nothing.
pub returns-in_err-e : goal.returns-in_err-e
returns-in_err-e c =
    let a = c.args in
    ap (verdict name_means) (passed_on _ _ c.from_residual.ensures.1) ∙ sym (entry_denied srt a.s.now a.entry (material_name a.track) _ c.in_err-e.ensures)

pub returns : goal.returns
returns c = let a = c.args in name_of a.s.now a.entry _ _ c.in_ok-e.ensures a.track _ c.name_in.ensures
