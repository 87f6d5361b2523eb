use Rattle.std.proofs.Common.{rules}
use Rattle.text.proofs.WritesLaws.{pushed_none, pushed_on, no_digits, more_digits}
use Rattle.text.proofs.Text.+push_digits.Goals as goal

pub returns-then-width-gt0 : goal.returns-then-width-gt0
returns-then-width-gt0 t c =
    let d = more_digits c.args.width c.args.n c.if-width-gt0.true in
    rw (d, c.push.ensures, c.push_digits.ensures) (simp pushed_on)

pub returns-else-width-gt0 : goal.returns-else-width-gt0
returns-else-width-gt0 t c = rw (no_digits c.args.width c.args.n c.if-width-gt0.false, pushed_none c.args.self.now) (search rules)
