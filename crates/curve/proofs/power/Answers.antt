use Prim.Native.Nat.{◌^◌, ◌≤◌}
use native.Mathlib.Nat.{pow-le-pow_right}
use native.Mathlib.Omega.{arith}
use lib.Dec.{lit<}
use Rattle.curve.proofs.power.Goals as goal

-- `curve::power` meets its contract. Assumes nothing.
pub returns : goal.returns
returns c = let l : 2 ^ c.args.rate ≤ 8 = pow-le-pow_right (lit< tt) c.requires in omega arith
