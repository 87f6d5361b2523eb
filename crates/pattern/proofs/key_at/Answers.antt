use Prim.Native.Nat.{◌+◌, ◌*◌}
use mathlib.Core.Path.{refl}
use Rattle.pattern.proofs.PatternLaws.{key_there}
use Rattle.pattern.proofs.key_at.Goals as goal

-- `pattern::key_at` meets its contract. Assumes nothing.
pub returns : goal.returns
returns c =
    let a = c.args in
    rw (key_there a.s.now (a.place + 4 * a.k), ← c.word16.ensures, ← c.byte.ensures, ← c.byte-2.ensures) refl
