use mathlib.Core.Path.{sym, subst}
use Rattle.util.proofs.TryLaws.{passed_on}
use Rattle.nitro.specs.Container.{srt}
use Rattle.calls.proofs.CallsLaws.{entry_denied}
use Rattle.calls.specs.Calls.{of_material}
use Rattle.srt.specs.SrtCode.{TrackFinds}
use Rattle.srt.proofs.SrtLaws.{track_past, track_stands}
use Rattle.srt.proofs.find_track.Goals as goal

-- `srt::find_track` meets its contract. Assumes nothing.
pub returns-in_err-e : goal.returns-in_err-e
returns-in_err-e c =
    let a = c.args in
    subst (TrackFinds a.s.now a.entry a.track) (sym (passed_on _ _ c.from_residual.ensures.1)) (λ q. entry_denied srt a.s.now a.entry (of_material a.track q) _ c.in_err-e.ensures)

pub returns-then-known-track : goal.returns-then-known-track
returns-then-known-track c = let a = c.args in track_past a.s.now a.entry _ _ c.in_ok-e.ensures a.track c.if-known-track.true

pub returns : goal.returns
returns c = let a = c.args in track_stands a.s.now a.entry _ _ c.in_ok-e.ensures a.track c.if-known-track.false
