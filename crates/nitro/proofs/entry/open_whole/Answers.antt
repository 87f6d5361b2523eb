use mathlib.Core.Path.{subst}
use Rattle.std.specs.Prelude.{Ok, Err, ◌≡◌}
use Rattle.util.specs.Reader.{refused, run}
use Rattle.util.specs.RefusalCode.{number_of}
use Rattle.util.proofs.TryLaws.{stopped}
use Rattle.nitro.specs.Container.{value}
use Rattle.nitro.specs.EntryCode.{OpenReads}
use Rattle.nitro.proofs.EntryLaws.{onward, value_refused}
use Rattle.nitro.proofs.entry.open_whole.Goals as goal

-- `nitro::entry::open_whole` meets its contract. Assumes nothing.
pub returns-in_err-e : goal.returns-in_err-e
returns-in_err-e g c =
    let a = c.args in
    stopped _ _ _ _ c.from_residual.ensures.1 (subst (λ k. OpenReads k a.s.now a.i (Err c.in_err-e.field-0.0)) c.kind.ensures c.in_err-e.ensures).reads

pub returns-in_err-read : goal.returns-in_err-read
returns-in_err-read g c =
    let a = c.args in
    let e = c.in_ok-e.e in
    let k = g.E.Entry.kind in
    stopped _ _ _ _ c.from_residual-in_err-read.ensures.1
    (value_refused k a.s.now a.i e (subst (λ k. OpenReads k a.s.now a.i (Ok e)) c.kind.ensures c.in_ok-e.ensures) _ (subst (λ l. run (value k) l 0 ≡ refused (number_of c.in_err-read.field-0.0)) (onward e.offset a.s.now) c.in_err-read.ensures))

pub returns : goal.returns
returns g c =
    let a = c.args in
    let e = c.in_ok-e.e in
    record {
      stands = subst (λ k. OpenReads k a.s.now a.i (Ok e)) c.kind.ensures c.in_ok-e.ensures;
      whole = subst (λ l. g.E.Entry.Whole l c.in_ok-read.field-0) (onward e.offset a.s.now) c.in_ok-read.ensures;
    }
