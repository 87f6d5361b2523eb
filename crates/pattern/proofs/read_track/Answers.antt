use mathlib.Core.Path.{sym, ap}
use Rattle.util.specs.ReaderCode.{tally_of}
use Rattle.pattern.specs.Pattern.{key_count}
use Rattle.pattern.proofs.PatternLaws.{keys_length, track_short, track_outside, track_whole}
use Rattle.pattern.proofs.read_track.Goals as goal

-- `pattern::read_track` meets its contract. Assumes nothing.
pub returns-then-s-end : goal.returns-then-s-end
returns-then-s-end c =
    let a = c.args in
    let r = c.read_track_keys-keys in
    sym (ap (tally_of key_count) (track_short a.textures a.palettes a.s.now a.datum a.reach r.result r.ensures c.if-s-end.true))

pub returns-then-not-keys_inside : goal.returns-then-not-keys_inside
returns-then-not-keys_inside c =
    let a = c.args in
    let r = c.read_track_keys-keys in
    let k = c.keys_inside in
    sym (ap (tally_of key_count) (track_outside a.textures a.palettes a.s.now a.datum a.reach r.result r.ensures c.if-s-end.false k.result k.ensures c.if-not-keys_inside.true))

pub returns : goal.returns
returns c =
    let a = c.args in
    let r = c.read_track_keys-keys in
    let k = c.keys_inside in
    cc (c.max.ensures, keys_length a.s.now r.result, ap (tally_of key_count) (track_whole a.textures a.palettes a.s.now a.datum a.reach r.result r.ensures c.if-s-end.false k.result k.ensures c.if-not-keys_inside.false))
