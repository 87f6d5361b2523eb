use mathlib.Core.Path.{sym, ◌∙◌}
use native.Mathlib.Omega.{arith}
use Rattle.pattern.proofs.PatternLaws.{inside_next, inside_all}
use Rattle.pattern.proofs.keys_inside.Goals as goal

pub loop-k-preserved : goal.loop-k-preserved
loop-k-preserved c =
    let l = c.loop-k in
    let a = c.args in
    inside_next a.s.now a.keys l.k (omega arith) a.textures a.palettes l.all _ c.key_inside-all.ensures ∙ l.invariant

pub returns : goal.returns
returns c =
    let l = c.loop-k in
    let a = c.args in
    sym (inside_all a.s.now a.keys l.k (omega arith) a.textures a.palettes l.all) ∙ l.invariant
