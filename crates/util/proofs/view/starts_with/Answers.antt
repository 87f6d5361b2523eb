use mathlib.Core.Path.{ap, ◌∙◌}
use lib.Dec.{eqb}
use lib.ListN.{take}
use lib.Seq.{length-take-le}
use Rattle.std.specs.Cmp.Lexicographic.{pointwise}
use Rattle.util.proofs.ViewLaws.{same_whole}
use Rattle.util.proofs.view.starts_with.Goals as goal

pub returns : goal.returns
returns c =
    let a = c.args in
    c.starts_with.ensures.value ∙ ap (λ n. pointwise eqb a.stamp.now (take n a.s.now)) c.told-stamp ∙ same_whole (take 4 a.s.now) a.stamp.now 4 (length-take-le 4 a.s.now c.requires) c.told-stamp
