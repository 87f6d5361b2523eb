use native.Mathlib.Omega.{arith}
use Rattle.writing.specs.WritingCode.{lists}
use Rattle.writing.proofs.CheckLaws.{sized, far, no_room, has_room}
use Rattle.writing.proofs.check.check_size.Goals as goal

-- `writing::check::check_size` meets its contract. Assumes nothing.
pub overflow_add-place-2 : goal.overflow_add-place-2
overflow_add-place-2 c =
    let a = c.args in
    let k = sized (lists a.textures.now a.palettes.now a.tracks.now a.keys.now) c.requires.0 c.requires.1 in
    omega arith

pub overflow_add-place-3 : goal.overflow_add-place-3
overflow_add-place-3 c =
    let a = c.args in
    let k = sized (lists a.textures.now a.palettes.now a.tracks.now a.keys.now) c.requires.0 c.requires.1 in
    omega arith

pub overflow_add-size : goal.overflow_add-size
overflow_add-size c =
    let a = c.args in
    let k = sized (lists a.textures.now a.palettes.now a.tracks.now a.keys.now) c.requires.0 c.requires.1 in
    omega arith

pub overflow_add-size-2 : goal.overflow_add-size-2
overflow_add-size-2 c =
    let a = c.args in
    let k = sized (lists a.textures.now a.palettes.now a.tracks.now a.keys.now) c.requires.0 c.requires.1 in
    omega arith

pub all_near-requires : goal.all_near-requires
all_near-requires c =
    let a = c.args in
    let k = sized (lists a.textures.now a.palettes.now a.tracks.now a.keys.now) c.requires.0 c.requires.1 in
    (omega arith, omega arith, omega arith)

pub returns-then-not-all_near-size : goal.returns-then-not-all_near-size
returns-then-not-all_near-size c =
    let a = c.args in
    let l = lists a.textures.now a.palettes.now a.tracks.now a.keys.now in
    let near = c.all_near in
    far l a.room c.requires.0 c.requires.1 c.requires.2 near.result near.ensures c.if-not-all_near-size.true

pub returns-then-room-size : goal.returns-then-room-size
returns-then-room-size c =
    let a = c.args in
    let l = lists a.textures.now a.palettes.now a.tracks.now a.keys.now in
    let near = c.all_near in
    no_room l a.room c.requires.0 c.requires.1 c.requires.2 near.result near.ensures c.if-not-all_near-size.false c.if-room-size.true

pub returns : goal.returns
returns c =
    let a = c.args in
    let l = lists a.textures.now a.palettes.now a.tracks.now a.keys.now in
    let near = c.all_near in
    has_room l a.room c.requires.0 c.requires.1 c.requires.2 near.result near.ensures c.if-not-all_near-size.false c.if-room-size.false
