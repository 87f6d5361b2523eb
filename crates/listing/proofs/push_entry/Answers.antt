use Prim.Native.Nat.{◌+◌, ◌-◌}
use mathlib.Core.Path.{◌≡◌}
use native.Mathlib.Omega.{arith}
use Rattle.text.proofs.WritesLaws.{pushed_on}
use Rattle.listing.specs.Listing.{entry_lines}
use Rattle.listing.proofs.push_entry.Goals as goal

-- `listing::push_entry` meets its contract. Assumes nothing.
pub returns : goal.returns
unfolding entry_lines
returns c =
    let e : c.args.p + 16 - c.args.p ≡ 16 = omega arith in
    rw (c.push_check.ensures, c.push_hex_line.ensures, c.push_decimal_line.ensures, c.requires.1, e) (simp pushed_on)
