-- A material animation's refusals have numbers other than 0. Assumes nothing.
use Prim.Native.Nat.{ℕ, ◌*◌}
use mathlib.Core.List.{List}
use lib.ListN.{take, drop}
use Rattle.util.specs.View.{word_at}
use Rattle.util.specs.Reader.{bind, each}
use Rattle.util.proofs.NumberLaws.{Numbered, numbered_cond, numbered_bind, numbered_each}
use Rattle.info_block.specs.InfoBlock.{info_block}
use Rattle.info_block.proofs.NumberLaws.{info_block_numbered}
use Rattle.material_animation.specs.MaterialAnimation.{channel_list, carries, channel, channels, material_animation}

channel_numbered : (track : List ℕ) (n : ℕ) → Numbered (channel track n)
unfolding channel channel_list bind
channel_numbered track n = numbered_cond (carries n (word_at 1 (take 8 (drop (8 * n) track)) 3)) _ _ (λ _. tt) tt

pub material_numbered : Numbered material_animation
unfolding material_animation bind
material_numbered = λ _ _ _.
    numbered_bind (info_block 8 40) _ (info_block_numbered 8 40) λ _.
    numbered_bind (each channels _) _ (numbered_each _ (λ track. numbered_each _ (channel_numbered track) _) _) λ _. tt
