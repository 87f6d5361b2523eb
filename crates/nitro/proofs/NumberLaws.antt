-- The refusals of a section and of its entries have numbers other than 0. Assumes nothing.
use Prim.Native.Nat.{ℕ}
use mathlib.Core.Bool.{Bool, true, false, cond}
use mathlib.Core.List.{List, [], ◌∷◌}
use lib.Dec.{lit<}
use Rattle.util.specs.View.{same}
use Rattle.util.specs.Reader.{bind, Verdict, answered, tell}
use Rattle.util.proofs.NumberLaws.{Numbered, numbered_test, numbered_bind, numbered_within}
use Rattle.info_block.proofs.NumberLaws.{info_block_numbered}
use Rattle.animation.proofs.NumberLaws.{animation_numbered}
use Rattle.material_animation.proofs.NumberLaws.{material_numbered}
use Rattle.pattern.proofs.NumberLaws.{pattern_numbered}
use Rattle.nitro.specs.Container.{Kind, jnt, srt, pat, stamp_of, kind_of, stamped, section, value, entry_in, entry}

pub stamped_numbered : (ks : List Kind) → Numbered (stamped ks)
unfolding stamped kind_of
stamped_numbered [] = λ _. lit< tt
stamped_numbered (k ∷ ks) = λ bs. go (same 4 bs (stamp_of k)) (kind_of ks bs) (stamped_numbered ks bs)
  where
    go : (b : Bool) (v : Verdict Kind) → Numbered (tell v) → Numbered (tell (cond b (answered k) v))
    go true v h = tt
    go false v h = h

section_numbered : Numbered section
unfolding section bind
section_numbered = λ _. info_block_numbered 8 4

pub entry_numbered : (k : Kind) (i : ℕ) → Numbered (entry k i)
unfolding entry entry_in
entry_numbered k i =
    numbered_bind _ _ section_numbered λ _.
    numbered_test _ 9 _ (lit< tt) (numbered_bind _ _ (numbered_within _ _ (value_numbered k)) λ _. tt)
  where
    value_numbered : (k : Kind) → Numbered (value k)
    value_numbered jnt = animation_numbered
    value_numbered srt = material_numbered
    value_numbered pat = pattern_numbered
