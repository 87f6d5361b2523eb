-- Items written into a list from a place onward. Assumes nothing.
use Prim.Native.Nat.{ℕ, suc, ◌+◌, ◌-◌, ◌≤◌, ◌<◌}
use mathlib.Core.List.{List, [], ◌∷◌, ◌++◌, append-nil}
use mathlib.Core.Path.{◌≡◌, refl, sym, ap, ◌∙◌}
use native.Mathlib.Nat.{le_refl, add-zero, suc-add, add-suc}
use native.Mathlib.Numerals.{add-one}
use native.Mathlib.Omega.{arith}
use lib.ListN.{length, set, take, drop, get_or, length-drop, take-append-drop, drop_of_length-le}
use lib.Seq.{sets, sets-eq, drop-cons, take_all, length-take-le}

module _ {A : Type 0} where
  -- writing x and then y is writing x ++ y
  pub sets-append : (l : List A) (at : ℕ) (x y : List A) → sets (sets l at x) (at + length x) y ≡ sets l at (x ++ y)
  sets-append l at [] y = ap (λ (k : ℕ). sets l k y) (add-zero at)
  sets-append l at (a ∷ x) y =
      ap (λ (k : ℕ). sets (sets (set l at a) (suc at) x) k y) (add-suc at (length x) ∙ sym (suc-add at (length x))) ∙ sets-append (set l at a) (suc at) x y

  -- the same, where the second begins at a place that is known by another name
  pub sets_after : (l : List A) (at next : ℕ) (x y : List A) → at + length x ≡ next → sets (sets l at x) next y ≡ sets l at (x ++ y)
  sets_after l at next x y e = ap (λ (k : ℕ). sets (sets l at x) k y) (sym e) ∙ sets-append l at x y

  -- a write into the part behind l is a write into the whole
  set_part : (l r : List A) (i : ℕ) (a : A) → l ++ set r i a ≡ set (l ++ r) (length l + i) a
  set_part [] r i a = ap (λ (k : ℕ). set r k a) (zero_plus i)
    where
      zero_plus : (i : ℕ) → i ≡ 0 + i
      zero_plus i = omega arith
  set_part (b ∷ l) r i a = ap (λ (t : List A). b ∷ t) (set_part l r i a) ∙ ap (λ (k : ℕ). set (b ∷ (l ++ r)) k a) (sym (suc-add (length l) i))

  sets_part : (l r : List A) (i : ℕ) (vs : List A) → l ++ sets r i vs ≡ sets (l ++ r) (length l + i) vs
  sets_part l r i [] = refl
  sets_part l r i (v ∷ vs) =
      sets_part l (set r i v) (suc i) vs
      ∙ ap (λ (t : List A). sets t (length l + suc i) vs) (set_part l r i v)
      ∙ ap (λ (k : ℕ). sets (set (l ++ r) (length l + i) v) k vs) (add-suc (length l) i)

  -- what a callee that was lent the part from a on wrote there, said of the whole: the front is as it was
  pub sets_lent : (a : ℕ) (xs ys vs : List A) → a ≤ length xs → ys ≡ sets (take (length xs - a) (drop a xs)) 0 vs
      → take a xs ++ (ys ++ drop (length xs - a) (drop a xs)) ≡ sets xs a vs
  sets_lent a xs ys vs h e =
      ap (λ (t : List A). take a xs ++ (ys ++ t)) (drop_of_length-le (drop a xs) {i = length xs - a} (simp length-drop (le_refl _)))
      ∙ ap (λ (t : List A). take a xs ++ t) (append-nil ys ∙ e ∙ ap (λ (t : List A). sets t 0 vs) (take_all (length xs - a) (drop a xs) (simp length-drop (le_refl _))))
      ∙ sets_part (take a xs) (drop a xs) 0 vs
      ∙ ap (λ (t : List A). sets t (length (take a xs) + 0) vs) (take-append-drop a xs)
      ∙ ap (λ (k : ℕ). sets xs k vs) (add-zero (length (take a xs)) ∙ length-take-le a xs h)

  -- item i of b is written: the others are still to do
  pub item_written : (b l : List A) (at i : ℕ) (x d : A) → i < length b → x ≡ get_or b i d → sets l (at + i) (drop i b) ≡ sets (set l (at + i) x) (at + (i + 1)) (drop (i + 1) b)
  item_written b l at i x d h e =
      rw (drop-cons b i d h, e, add-one i) (ap (λ (k : ℕ). sets (set l (at + i) (get_or b i d)) k (drop (suc i) b)) (next at i))
    where
      next : (at i : ℕ) → suc (at + i) ≡ at + suc i
      next at i = omega arith

  pub items_written : (b l : List A) (at i : ℕ) → length b ≤ i → l ≡ sets l (at + i) (drop i b)
  items_written b l at i h = rw (drop_of_length-le b h) refl

  -- what was written from the start on, and the rest as it was
  pub sets_front : (l b : List A) → length b ≤ length l → sets l 0 b ≡ b ++ drop (length b) l
  sets_front l b h = sets-eq b l 0 (omega arith) ∙ ap (λ (k : ℕ). b ++ drop k l) (zero_plus (length b))
    where
      zero_plus : (n : ℕ) → 0 + n ≡ n
      zero_plus n = omega arith
