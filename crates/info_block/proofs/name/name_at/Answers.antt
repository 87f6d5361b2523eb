use Prim.Native.Nat.{ℕ}
use native.Mathlib.Omega.{arith}
use Rattle.info_block.proofs.NameLaws.{words_mean}
use Rattle.info_block.proofs.name.name_at.Goals as goal

-- `info_block::name::name_at` meets its contract. Assumes nothing.
pub returns : goal.returns
returns c =
    let a = c.args in
    words_mean a.s.now a.p (λ (i : ℕ). omega (arith, c.type_inv.s i)) (omega arith) _ c.word64.ensures c.word64-2.ensures
