-- An animation's refusals have numbers other than 0. Assumes nothing.
use Prim.Native.Nat.{ℕ, ◌+◌}
use mathlib.Core.Bool.{Bool, true, false}
use lib.Dec.{eqb, lit<}
use Rattle.util.specs.View.{little}
use Rattle.util.specs.Reader.{bind, each}
use Rattle.util.specs.Bits.{bits, bit}
use Rattle.util.proofs.NumberLaws.{Numbered, numbered_cond, numbered_test, numbered_bind, numbered_each}
use Rattle.animation.specs.Animation.{Triple, left_out_bit, curve_word, list_fields, scalar_list, scalar, axes, animated_axes, reference, rotation_list, rotation, animated_rotation, animated, object, animation}

word_numbered : (p : ℕ) → Numbered (curve_word p)
unfolding curve_word bind
word_numbered p = λ _. numbered_test _ 7 _ (lit< tt) tt

fields_numbered : (p : ℕ) → Numbered (list_fields p)
unfolding list_fields bind
fields_numbered p = numbered_bind (curve_word p) _ (word_numbered p) λ _ _. tt

scalar_numbered : (t : Triple) (b : Bool) (p : ℕ) → Numbered (scalar t b p)
unfolding scalar scalar_list bind
scalar_numbered t true p = λ _. tt
scalar_numbered t false p = numbered_bind (list_fields p) _ (fields_numbered p) λ _ _. tt

axes_numbered : (t : Triple) (flags p : ℕ) → Numbered (animated_axes t flags p)
unfolding animated_axes axes
axes_numbered t flags p =
    numbered_cond (eqb (bits flags (left_out_bit t) (left_out_bit t + 2)) 0) (axes t flags p) _
    (numbered_bind _ _ (scalar_numbered _ _ _) λ _.
    numbered_bind _ _ (scalar_numbered _ _ _) λ _.
    numbered_bind _ _ (scalar_numbered _ _ _) λ _. tt)
    tt

module _ (pivot basis : ℕ) where
  rotation_numbered : (b : Bool) (p : ℕ) → Numbered (rotation pivot basis b p)
  unfolding rotation rotation_list reference bind
  rotation_numbered true p = λ _ _ _. tt
  rotation_numbered false p =
      numbered_bind (list_fields p) _ (fields_numbered p) λ _ _.
      numbered_bind (each (reference pivot basis) _) _ (numbered_each _ (λ _ _. tt) _) λ _. tt

  animated_numbered : (flags p : ℕ) → Numbered (animated pivot basis flags p)
  unfolding animated animated_rotation
  animated_numbered flags p =
      numbered_bind _ _ (axes_numbered _ _ _) λ _.
      numbered_bind _ _ (numbered_cond (eqb (bits flags 6 8) 0) _ _ (rotation_numbered _ _) tt) λ _.
      numbered_bind _ _ (axes_numbered _ _ _) λ _. tt

  object_numbered : (p : ℕ) → Numbered (object pivot basis p)
  unfolding object bind
  object_numbered p = λ bs _. numbered_cond (bit (little bs) 0) _ _ tt (animated_numbered _ _)

pub animation_numbered : Numbered animation
unfolding animation bind
animation_numbered = λ _ _ _ _ _ _ _.
    numbered_test _ 5 _ (lit< tt)
    (numbered_test _ 6 _ (lit< tt)
    (numbered_test _ 12 _ (lit< tt)
    (numbered_bind (each (object _ _) _) _ (numbered_each _ (object_numbered _ _) _) λ _. tt)))
