use mathlib.Core.Path.{sym, ◌∙◌}
use native.Mathlib.Omega.{arith}
use Rattle.info_block.proofs.InfoBlockLaws.{header_short, lists_short, not_zero, wrong_size, whole}
use Rattle.info_block.proofs.read.Goals as goal

-- `info_block::read` meets its contract. Assumes nothing.
pub returns-then-n-p : goal.returns-then-n-p
returns-then-n-p c reach = let a = c.args in record { reads = header_short a.p a.size a.s.now reach (omega arith); holds = tt }

pub returns-then-n-end : goal.returns-then-n-end
returns-then-n-end c reach =
    let b = c.byte-count in
    let a = c.args in
    record { reads = lists_short a.p a.size a.s.now reach b.result (sym b.ensures) c.if-n-end.true; holds = tt }

pub returns-then-byte-ne0 : goal.returns-then-byte-ne0
returns-then-byte-ne0 c reach =
    let b = c.byte-count in
    let a = c.args in
    record { reads = not_zero a.p a.size a.s.now reach b.result (sym b.ensures) c.if-n-end.false (λ e. c.if-byte-ne0.true (c.byte.ensures ∙ e)); holds = tt }

pub returns-then-word16-size : goal.returns-then-word16-size
returns-then-word16-size c reach =
    let b = c.byte-count in
    let a = c.args in
    record { reads = wrong_size a.p a.size a.s.now reach b.result (sym b.ensures) c.if-n-end.false (sym c.byte.ensures ∙ c.if-byte-ne0.false) (λ e. c.if-word16-size.true (c.word16.ensures ∙ e)); holds = tt }

pub returns : goal.returns
returns c reach =
    let b = c.byte-count in
    let a = c.args in
    let l = c.if-n-end.false in
    record {
      reads = whole a.p a.size a.s.now reach b.result (sym b.ensures) l (sym c.byte.ensures ∙ c.if-byte-ne0.false) (sym c.word16.ensures ∙ c.if-word16-size.false);
      holds = record { few = omega arith; behind = omega arith; datums_end = omega arith; names_end = omega arith; inside = l };
    }
