use Prim.Native.Nat.{◌-◌}
use mathlib.Core.Path.{◌≡◌, ap, ◌∙◌, subst}
use native.Mathlib.Omega.{arith}
use lib.ListN.{length, drop, length-drop}
use Rattle.std.specs.Prelude.{Ok, Err}
use Rattle.util.proofs.TryLaws.{passed_on}
use Rattle.nitro.specs.ContainerCode.{kind_means}
use Rattle.nitro.specs.EntryCode.{check_means, ValueIs}
use Rattle.nitro.proofs.EntryLaws.{onward, past_end, held_refused, held_whole}
use Rattle.nitro.proofs.entry.check_at.Goals as goal

-- `nitro::entry::check_at` meets its contract. Assumes nothing.
pub returns-then-s-off : goal.returns-then-s-off
returns-then-s-off c = let a = c.args in held_refused (kind_means a.kind) a.s.now a.i a.e c.requires 2 (past_end (kind_means a.kind) a.s.now a.e.offset c.if-s-off.true)

pub name_at-requires : goal.name_at-requires
name_at-requires c = (c.requires (kind_means c.args.kind)).holds.0

pub overflow_add-off : goal.overflow_add-off
overflow_add-off c =
    let a = c.args in
    let v = subst (λ l. ValueIs (kind_means a.kind) l (Ok c.in_ok-held.held)) (onward a.e.offset a.s.now) c.in_ok-held.ensures in
    let l : length (drop a.e.offset a.s.now) ≡ length a.s.now - a.e.offset = length-drop a.e.offset a.s.now in
    let i = v.inside in
    omega arith

pub returns-in_err-held : goal.returns-in_err-held
returns-in_err-held c =
    let a = c.args in
    let v = subst (λ l. ValueIs (kind_means a.kind) l (Err c.in_err-held.field-0.0)) (onward a.e.offset a.s.now) c.in_err-held.ensures in
    ap check_means (passed_on _ _ c.from_residual.ensures.1) ∙ held_refused (kind_means a.kind) a.s.now a.i a.e c.requires _ v

pub returns : goal.returns
returns c =
    let a = c.args in
    let v = subst (λ l. ValueIs (kind_means a.kind) l (Ok c.in_ok-held.held)) (onward a.e.offset a.s.now) c.in_ok-held.ensures in
    held_whole (kind_means a.kind) a.s.now a.i a.e c.requires _ v _ _ c.name_at.ensures c.max.ensures
