use native.Mathlib.Omega.{arith}
use Rattle.pattern.proofs.FindLaws.{keys_nothing, found_inside, keys_end, no_keys, key_holds}
use Rattle.pattern.proofs.find_key.Goals as goal

-- `pattern::find_key` meets its contract. Assumes nothing.
pub returns-in_err-t : goal.returns-in_err-t
returns-in_err-t c =
    let a = c.args in
    λ w. rw c.from_residual.ensures (keys_nothing a.s.now a.a w a.name.now c.in_err-t.ensures)

pub overflow_mul-t : goal.overflow_mul-t
overflow_mul-t c =
    let a = c.args in
    let h = found_inside a.s.now a.a c.requires a.name.now _ c.in_ok-t.ensures in
    omega (arith, c.well_formed.0)

pub overflow_add-a : goal.overflow_add-a
overflow_add-a c =
    let a = c.args in
    let h = found_inside a.s.now a.a c.requires a.name.now _ c.in_ok-t.ensures in
    omega (arith, c.well_formed.0)

pub read_track_keys-keys-requires : goal.read_track_keys-keys-requires
read_track_keys-keys-requires c =
    let a = c.args in
    found_inside a.s.now a.a c.requires a.name.now _ c.in_ok-t.ensures

pub returns-then-keys-eq0 : goal.returns-then-keys-eq0
returns-then-keys-eq0 c =
    let a = c.args in
    λ w. no_keys a.s.now a.a w a.name.now _ c.in_ok-t.ensures _ c.read_track_keys-keys.ensures c.if-keys-eq0.true

pub sample-requires : goal.sample-requires
sample-requires c =
    let a = c.args in
    (keys_end a.s.now a.a c.requires a.name.now _ c.in_ok-t.ensures _ c.read_track_keys-keys.ensures, let h = c.if-keys-eq0.false in omega arith)

pub returns : goal.returns
returns c =
    let a = c.args in
    λ w. key_holds a.s.now a.a w a.name.now _ c.in_ok-t.ensures _ c.read_track_keys-keys.ensures c.if-keys-eq0.false a.frame _ c.sample.ensures
