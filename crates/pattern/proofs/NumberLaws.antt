-- A pattern animation's refusals have numbers other than 0. Assumes nothing.
use Prim.Native.Nat.{ℕ}
use mathlib.Core.List.{List}
use lib.Dec.{lit<}
use Rattle.util.specs.Reader.{bind, each}
use Rattle.util.proofs.NumberLaws.{Numbered, numbered_test, numbered_bind, numbered_each}
use Rattle.info_block.specs.InfoBlock.{info_block}
use Rattle.info_block.proofs.NumberLaws.{info_block_numbered}
use Rattle.pattern.specs.Pattern.{track, pattern}

track_numbered : (textures palettes : ℕ) (datum : List ℕ) → Numbered (track textures palettes datum)
unfolding track bind
track_numbered textures palettes datum = λ _. numbered_test _ 8 _ (lit< tt) tt

pub pattern_numbered : Numbered pattern
unfolding pattern bind
pattern_numbered = λ _ _ _ _ _ _ _ _.
    numbered_bind (info_block 12 8) _ (info_block_numbered 12 8) λ _.
    numbered_bind (each (track _ _) _) _ (numbered_each _ (track_numbered _ _) _) λ _. tt
