-- The earliest of equal names: what is promised of it. Assumes nothing.
use Prim.Native.Nat.{ℕ, suc, zero, ◌≤◌, ◌<◌}
use mathlib.Core.Bool.{Bool, true, false, cond, false≢true}
use mathlib.Core.List.{List, [], ◌∷◌}
use mathlib.Core.Logic.{⊎_elim}
use mathlib.Core.Option.{Option, none, some, map}
use mathlib.Core.Path.{◌≡◌, refl, sym, ap, subst, ◌∙◌}
use native.Mathlib.Omega.{arith}
use Rattle.util.proofs.Cut.{le_or_lt}
use Rattle.info_block.specs.Name.{Name, equal, earliest, Named, Lowest, EarliestName}

-- no name below an index equals a given one
abbrev pub NoneBelow : Name → List Name → ℕ → Type 0
NoneBelow name names i = (j : ℕ) → j < i → Named name names j → ⊥

-- what an answer says
abbrev Says : Name → List Name → Option ℕ → Type 0
Says name names none = (i : ℕ) → Named name names i → ⊥
Says name names (some i) = Lowest name names i

-- the earliest is an answer that says so
said : (name : Name) (names : List Name) → Says name names (earliest name names)
unfolding earliest
said name [] = λ i n. let h : i < 0 = n.0 in omega arith
said name (x ∷ xs) = here (equal name x) refl (earliest name xs) (said name xs)
  where
    below : equal name x ≡ false → (i : ℕ) → NoneBelow name xs i → NoneBelow name (x ∷ xs) (suc i)
    below q i h zero l n = false≢true (sym q ∙ n.1)
    below q i h (suc j) l n = h j (omega arith) (omega (arith, n.0), n.1)

    here : (b : Bool) → equal name x ≡ b → (o : Option ℕ) → Says name xs o → Says name (x ∷ xs) (cond b (some 0) (map suc o))
    here true q o w = ((omega arith, q), λ j h n. omega arith)
    here false q none w = λ i. below q i (λ j h. w j) i (omega arith)
    here false q (some i) w = ((omega (arith, w.0.0), w.0.1), below q i w.1)

-- .. and the only one
module _ (name : Name) (names : List Name) where
  same_lowest : (i j : ℕ) → Lowest name names i → Lowest name names j → i ≡ j
  same_lowest i j v w =
      ⊎_elim
      (λ (h : i ≤ j). ⊎_elim (λ (l : j ≤ i). omega arith) (λ (l : i < j). absurd (w.1 i l v.0)) (le_or_lt j i))
      (λ (h : j < i). absurd (v.1 j h w.0))
      (le_or_lt i j)

  only : (o p : Option ℕ) → Says name names o → Says name names p → o ≡ p
  only none none v w = refl
  only none (some j) v w = absurd (v j w.0)
  only (some i) none v w = absurd (w i v.0)
  only (some i) (some j) v w = ap some (same_lowest i j v w)

  is_said : (o : Option ℕ) → Says name names o → earliest name names ≡ o
  is_said o = only (earliest name names) o (said name names)

  says : (o : Option ℕ) → earliest name names ≡ o → Says name names o
  says o e = subst (Says name names) e (said name names)

pub earliest_name : EarliestName
earliest_name =
    record {
      found = λ name names i. (says name names (some i), is_said name names (some i));
      nothing = λ name names. (says name names none, is_said name names none);
    }
