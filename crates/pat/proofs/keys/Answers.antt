use mathlib.Core.Path.{sym, subst}
use Rattle.util.proofs.TryLaws.{passed_on}
use Rattle.nitro.specs.Container.{pat}
use Rattle.calls.proofs.CallsLaws.{entry_denied}
use Rattle.calls.specs.Calls.{keys, of_pattern}
use Rattle.pat.specs.PatCode.{KeysAre}
use Rattle.pat.proofs.PatLaws.{keys_listed, track_past, keys_at_lem}
use Rattle.pat.proofs.keys.Goals as goal

-- `pat::keys` meets its contract. Assumes nothing.
pub returns-in_err-e-clause-keys : goal.returns-in_err-e-clause-keys
returns-in_err-e-clause-keys c =
    let a = c.args in
    subst (KeysAre a.s.now a.entry a.track) (sym (passed_on _ _ c.from_residual.ensures.1)) (λ q. entry_denied pat a.s.now a.entry (of_pattern a.track q) _ c.in_err-e.ensures)

pub returns-in_err-e-clause-answers : goal.returns-in_err-e-clause-answers
returns-in_err-e-clause-answers c = let a = c.args in keys_listed a.s.now a.entry a.track _ (returns-in_err-e-clause-keys c)

pub returns-then-a-track-clause-keys : goal.returns-then-a-track-clause-keys
returns-then-a-track-clause-keys c = let a = c.args in track_past a.s.now a.entry _ _ c.in_ok-e.ensures a.track c.if-a-track.true

pub returns-then-a-track-clause-answers : goal.returns-then-a-track-clause-answers
returns-then-a-track-clause-answers c = sym (returns-then-a-track-clause-keys c keys)

pub returns-clause-keys : goal.returns-clause-keys
returns-clause-keys c = let a = c.args in keys_at_lem a.s.now a.entry _ _ c.in_ok-e.ensures a.track c.if-a-track.false _ c.read_track_keys-keys.ensures

pub returns-clause-answers : goal.returns-clause-answers
returns-clause-answers c = sym (returns-clause-keys c).listed
