use mathlib.Core.Path.{sym, ◌∙◌}
use native.Mathlib.Omega.{arith}
use lib.Dec.{lit≤}
use Rattle.util.proofs.Cut.{to}
use Rattle.material_animation.proofs.MaterialLaws.{channel_low, channel_other, channel_short, channel_whole}
use Rattle.material_animation.proofs.read_channel.Goals as goal

-- `material_animation::read_channel` meets its contract. Assumes nothing.
pub returns-then-n-lt3 : goal.returns-then-n-lt3
returns-then-n-lt3 c = let a = c.args in record { reads = channel_low a.s.now a.track a.n c.requires.1 a.reach c.if-n-lt3.true; holds = tt }

pub returns-then-flags-ne16 : goal.returns-then-flags-ne16
returns-then-flags-ne16 c =
    let a = c.args in
    record { reads = channel_other a.s.now a.track a.n c.requires.1 a.reach (λ e. c.if-flags-ne16.true (c.byte-flags.ensures ∙ e)); holds = tt }

pub returns-then-s-end : goal.returns-then-s-end
returns-then-s-end c =
    let a = c.args in
    record { reads = channel_short a.s.now a.track a.n c.requires.1 a.reach c.if-n-lt3.false (sym c.byte-flags.ensures ∙ c.if-flags-ne16.false) _ _ (sym c.word16-frames.ensures) (sym c.word32-place.ensures) c.if-s-end.true; holds = tt }

pub returns : goal.returns
returns c =
    let a = c.args in
    record {
      reads = channel_whole a.s.now a.track a.n c.requires.1 a.reach c.if-n-lt3.false (sym c.byte-flags.ensures ∙ c.if-flags-ne16.false) _ _ (sym c.word16-frames.ensures) (sym c.word32-place.ensures) c.if-s-end.false ∙ to _ _ _ (sym c.max.ensures);
      holds = record { ends = c.if-s-end.false; framed = record { ordered = omega arith; rated = lit≤ tt }; frames = omega arith; wide = lit≤ tt };
    }
