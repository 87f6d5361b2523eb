use Prim.Native.Nat.{◌-◌}
use mathlib.Core.Path.{◌≡◌}
use Rattle.info_block.proofs.NameLaws.{equal_rest}
use Rattle.info_block.proofs.name.same_name.Given as goal

-- `info_block::name::same_name` meets its contract. Assumes nothing.
abbrev pub invariant-loop-k : goal.invariant-loop-k
invariant-loop-k l = equal_rest l.name l.s l.p l.k ≡ equal_rest l.name l.s l.p 0

abbrev pub decreases-loop-k : goal.decreases-loop-k
decreases-loop-k l = 16 - l.k
