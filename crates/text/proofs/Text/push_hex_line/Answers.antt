use Prim.Native.Nat.{ℕ}
use mathlib.Core.Path.{◌≡◌}
use native.Mathlib.Omega.{arith}
use Rattle.std.proofs.Common.{rules}
use Rattle.hex.specs.Hex.{encode_lower}
use Rattle.text.proofs.PrintsLaws.{hex_printed}
use Rattle.text.proofs.Text.push_hex_line.Goals as goal

pub returns : goal.returns
returns c =
    let h = hex_printed c.args.name.now (λ (i : ℕ). omega (arith, c.type_inv.name i)) in
    let w : c.encode_to_slice.new.output ≡ encode_lower c.args.name.now = search rules in
    rw (c.push_line.ensures, w, h) (search rules)
