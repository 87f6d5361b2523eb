use Prim.Native.Nat.{◌-◌}
use mathlib.Core.Bool.{◌&&◌}
use mathlib.Core.Path.{◌≡◌}
use lib.ListN.{drop}
use Rattle.pattern.specs.Pattern.{inside}
use Rattle.pattern.specs.PatternCode.{keys_at}
use Rattle.pattern.proofs.keys_inside.Given as goal

-- `pattern::keys_inside` meets its contract. The loop's invariant: `all` and what the keys left are come to what all the keys are. Assumes nothing.
abbrev pub invariant-loop-k : goal.invariant-loop-k
invariant-loop-k l = l.all && inside l.textures l.palettes (drop l.k (keys_at l.s l.keys)) ≡ inside l.textures l.palettes (keys_at l.s l.keys)

abbrev pub decreases-loop-k : goal.decreases-loop-k
decreases-loop-k l = l.keys.count - l.k
