use mathlib.Core.Path.{sym, ◌∙◌}
use Rattle.writing.specs.WritingCode.{lists}
use Rattle.writing.proofs.CheckLaws.{many, few_tracks, left_over, inside_is, outside}
use Rattle.writing.proofs.check.check_lists.Goals as goal

-- `writing::check::check_lists` meets its contract. Assumes nothing.
pub returns-then-not-few : goal.returns-then-not-few
returns-then-not-few c =
    let a = c.args in
    let l = lists a.textures.now a.palettes.now a.tracks.now a.keys.now in
    let f = c.few in
    many l a.room (sym f.ensures ∙ c.if-not-few.true)

pub whole-requires : goal.whole-requires
whole-requires c =
    let a = c.args in
    let l = lists a.textures.now a.palettes.now a.tracks.now a.keys.now in
    let f = c.few in
    few_tracks l (sym f.ensures ∙ c.if-not-few.false)

pub returns-then-not-whole : goal.returns-then-not-whole
returns-then-not-whole c =
    let a = c.args in
    let l = lists a.textures.now a.palettes.now a.tracks.now a.keys.now in
    let f = c.few in
    let q1 = sym f.ensures ∙ c.if-not-few.false in
    let w = c.whole in
    left_over l a.room q1 (sym w.ensures ∙ c.if-not-whole.true)

pub returns-then-not-keys_inside : goal.returns-then-not-keys_inside
returns-then-not-keys_inside c =
    let a = c.args in
    let l = lists a.textures.now a.palettes.now a.tracks.now a.keys.now in
    let f = c.few in
    let q1 = sym f.ensures ∙ c.if-not-few.false in
    let w = c.whole in
    let q2 = sym w.ensures ∙ c.if-not-whole.false in
    let i = c.keys_inside in
    outside l a.room q1 q2 (inside_is l a.room q1 q2 i.result i.ensures ∙ c.if-not-keys_inside.true)

pub check_size-requires : goal.check_size-requires
check_size-requires c =
    let a = c.args in
    let l = lists a.textures.now a.palettes.now a.tracks.now a.keys.now in
    let f = c.few in
    let q1 = sym f.ensures ∙ c.if-not-few.false in
    let w = c.whole in
    let q2 = sym w.ensures ∙ c.if-not-whole.false in
    let i = c.keys_inside in
    (q1, q2, inside_is l a.room q1 q2 i.result i.ensures ∙ c.if-not-keys_inside.false)

pub returns : goal.returns
returns c = c.check_size.ensures
