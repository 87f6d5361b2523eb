use Prim.Native.Nat.{ℕ, ◌-◌, ◌<◌}
use Rattle.pattern.proofs.PatternLaws.{NotLater}
use Rattle.pattern.proofs.first_later.Given as goal

-- `pattern::first_later` meets its contract. The loop's invariant: of the keys before k none is of a later frame. Assumes nothing.
abbrev pub invariant-loop-k : goal.invariant-loop-k
invariant-loop-k l = (j : ℕ) → j < l.k → NotLater l.s l.keys l.frame j

abbrev pub decreases-loop-k : goal.decreases-loop-k
decreases-loop-k l = l.keys.count - l.k
