use mathlib.Core.Path.{◌≡◌, refl, ◌∙◌}
use native.Mathlib.Omega.{arith}
use Rattle.text.specs.Text.{decimal}
use Rattle.text.proofs.PrintsLaws.{decimal_printed}
use Rattle.text.proofs.Text.push_decimal_line.Goals as goal

pub returns : goal.returns
returns c =
    let e : c.as_bytes.result.now ≡ decimal c.args.n = c.as_bytes.ensures.value ∙ (c.format.ensures.text ∙ decimal_printed c.args.n (omega arith)) in
    rw (c.push_line.ensures, e) refl
