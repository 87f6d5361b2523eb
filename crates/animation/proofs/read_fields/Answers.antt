use mathlib.Core.Path.{refl, ◌∙◌}
use Rattle.animation.proofs.ScalarLaws.{not_forward, is_forward, word_short, backward, offset_short, fields_whole}
use Rattle.animation.proofs.read_fields.Goals as goal

-- `animation::read_fields` meets its contract. Assumes nothing.
pub returns-then-s-p : goal.returns-then-s-p
returns-then-s-p c = let a = c.args in record { reads = word_short a.p a.reach a.s.now c.if-s-p.true; holds = tt }

pub returns-then-bits : goal.returns-then-bits
returns-then-bits c =
    let a = c.args in
    record { reads = backward a.p a.reach a.s.now c.if-s-p.false (not_forward _ _ _ _ c.word32-word.ensures c.bits.ensures c.bits-2.ensures c.if-bits.true); holds = tt }

pub returns-then-s-p-2 : goal.returns-then-s-p-2
returns-then-s-p-2 c =
    let a = c.args in
    record { reads = offset_short a.p a.reach a.s.now c.if-s-p.false (is_forward _ _ _ _ c.word32-word.ensures c.bits.ensures c.bits-2.ensures c.if-bits.false) c.if-s-p-2.true; holds = tt }

pub returns : goal.returns
returns c =
    let a = c.args in
    let f = is_forward _ _ _ _ c.word32-word.ensures c.bits.ensures c.bits-2.ensures c.if-bits.false in
    record {
      reads = fields_whole a.p a.reach a.s.now c.if-s-p.false f c.if-s-p-2.false ∙ (cc);
      holds = is_forward _ _ _ _ refl c.bits.ensures c.bits-2.ensures c.if-bits.false;
    }
