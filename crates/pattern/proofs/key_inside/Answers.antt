use Prim.Native.Nat.{ℕ, ◌+◌, ◌*◌}
use native.Mathlib.Omega.{arith}
use Rattle.pattern.proofs.PatternLaws.{key_word}
use Rattle.pattern.proofs.key_inside.Goals as goal

-- `pattern::key_inside` meets its contract. Assumes nothing.
pub returns : goal.returns
returns c =
    let a = c.args in
    rw (c.index_below.ensures, c.bits.ensures, c.index_below-2.ensures, c.bits-2.ensures, c.word32-key.ensures)
    (key_word a.s.now (a.place + 4 * a.k) (λ (i : ℕ). omega (arith, c.type_inv.s i)) c.requires a.textures a.palettes)
