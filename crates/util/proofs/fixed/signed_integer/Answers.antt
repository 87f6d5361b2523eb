use mathlib.Core.Path.{ap, ◌∙◌}
use mir.Syntax.{w64}
use mir.Val.{to_z, of_z}
use Rattle.util.proofs.FixedLaws.{twos_back, lower, double_fits, upper, upper_fits}
use Rattle.util.proofs.fixed.signed_integer.Goals as goal

-- `util::fixed::signed_integer` meets its contract. Assumes nothing.
pub overflow_add-result : goal.overflow_add-result
overflow_add-result c = double_fits _ _ c.ranges.half.fits c.requires

pub overflow_sub-result : goal.overflow_sub-result
overflow_sub-result c = upper_fits _ _ c.ranges.half.fits c.requires c.if-v-half.false

pub returns-then-v-half : goal.returns-then-v-half
returns-then-v-half c = lower _ _ c.ranges.half.fits c.requires c.if-v-half.true

pub returns-else-v-half : goal.returns-else-v-half
returns-else-v-half c =
    ap (λ z. to_z w64 (of_z w64 z)) (upper _ _ c.ranges.half.fits c.requires c.if-v-half.false)
    ∙ twos_back _ _ c.ranges.half.fits c.requires
