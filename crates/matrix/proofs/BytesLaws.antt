-- A number's bits can be taken; four items, and four lists of them, written one after the other. Assumes nothing.
use Prim.Native.Nat.{ℕ, suc, ◌+◌}
use mathlib.Core.Bool.{not}
use mathlib.Core.List.{List, [], ◌∷◌, ◌++◌}
use mathlib.Core.Path.{◌≡◌, refl, ap, ◌∙◌}
use native.Mathlib.Omega.{arith}
use lib.Dec.{T}
use lib.Ieee.{Float, fin, is_nan, nan, inf}
use lib.ListN.{length, set}
use lib.Seq.{sets}
use Rattle.util.proofs.WritesLaws.{sets_after}
use Rattle.matrix.specs.Finite.{Finite}

pub finite_no_nan : (x : Float) → Finite x → T (not (is_nan x))
unfolding is_nan
finite_no_nan nan h = elim h [ ]
finite_no_nan (inf _) h = elim h [ ]
finite_no_nan (fin s m e) h = tt

module _ {A : Type 0} where
  -- four items, each behind the one before
  pub four_set : (l : List A) (at : ℕ) (a b c d : A) → set (set (set (set l at a) (at + 1) b) (at + 2) c) (at + 3) d ≡ sets l at (a ∷ b ∷ c ∷ d ∷ [])
  four_set l at a b c d = let p = three at in rw (← p.2, ← p.1, ← p.0) refl
    where
      three : (at : ℕ) → (suc at ≡ at + 1) × (suc (suc at) ≡ at + 2) × (suc (suc (suc at)) ≡ at + 3)
      three at = (omega arith, omega arith, omega arith)

  -- four writes in a row, each where the one before ended
  pub four_written : (l l1 l2 l3 l4 : List A) (at p1 p2 p3 : ℕ) (a b c d : List A) → at + length a ≡ p1 → p1 + length b ≡ p2 → p2 + length c ≡ p3
      → l1 ≡ sets l at a → l2 ≡ sets l1 p1 b → l3 ≡ sets l2 p2 c → l4 ≡ sets l3 p3 d → l4 ≡ sets l at (a ++ (b ++ (c ++ d)))
  four_written l l1 l2 l3 l4 at p1 p2 p3 a b c d x y z h1 h2 h3 h4 =
      h4
      ∙ ap (λ (m : List A). sets m p3 d) h3
      ∙ sets_after l2 p2 p3 c d z
      ∙ ap (λ (m : List A). sets m p2 (c ++ d)) h2
      ∙ sets_after l1 p1 p2 b (c ++ d) y
      ∙ ap (λ (m : List A). sets m p1 (b ++ (c ++ d))) h1
      ∙ sets_after l at p1 a (b ++ (c ++ d)) x
