-- An info block's refusals have numbers other than 0. Assumes nothing.
use Prim.Native.Nat.{ℕ}
use lib.Dec.{lit<}
use Rattle.util.specs.Reader.{bind}
use Rattle.util.proofs.NumberLaws.{Numbered, numbered_test}
use Rattle.info_block.specs.InfoBlock.{info_block}

pub info_block_numbered : (p size : ℕ) → Numbered (info_block p size)
unfolding info_block bind
info_block_numbered p size = λ _ _ _ _ _ _ _ _ _ _ _. numbered_test _ 3 _ (lit< tt) (numbered_test _ 4 _ (lit< tt) tt)
