-- Equal names: what is promised of them, and how they are told byte by byte. Assumes nothing.
use Prim.Native.Nat.{ℕ, zero, suc}
use mathlib.Core.Bool.{Bool, true, false, cond, false≢true, and-eq-true_iff, not-eq-not}
use mathlib.Core.List.{List, [], ◌∷◌, ◌++◌}
use mathlib.Core.Path.{◌≡◌, refl, sym, ap, subst, ◌∙◌}
use native.Mathlib.Nat.{suc-ne-zero}
use borrow.Author.Tests.{eqb-true, eq-eqb, ne_eqb}
use lib.Dec.{eqb}
use lib.ListN.{drop, get_or}
use lib.Seq.{drop-nil}
use Rattle.info_block.specs.Name.{Name, front_of, same_bytes, equal, EqualNames}

-- ---- the same bytes

same_self : (a : List ℕ) → same_bytes a a ≡ true
unfolding same_bytes
same_self [] = refl
same_self (x ∷ xs) = rw (eq-eqb x x refl) (same_self xs)

same_is : (a b : List ℕ) → same_bytes a b ≡ true → a ≡ b
unfolding same_bytes
same_is [] [] e = refl
same_is [] (y ∷ ys) e = absurd (false≢true e)
same_is (x ∷ xs) [] e = absurd (false≢true e)
same_is (x ∷ xs) (y ∷ ys) e = let w = (and-eq-true_iff (eqb x y) (same_bytes xs ys)).0 e in λ i. eqb-true x y w.0 i ∷ same_is xs ys w.1 i

-- ---- what is promised

same_fronts : (a b : Name) → front_of a ≡ front_of b → equal a b ≡ true
unfolding equal
same_fronts a b e = subst (λ (l : List ℕ). same_bytes (front_of a) l ≡ true) e (same_self (front_of a))

no_others : (a b : Name) → equal a b ≡ true → front_of a ≡ front_of b
unfolding equal
no_others a b e = same_is (front_of a) (front_of b) e

-- the front ends before the zero
front_left : (a r : List ℕ) → front_of (a ++ 0 ∷ r) ≡ front_of a
unfolding front_of
front_left [] r = refl
front_left (x ∷ xs) r = ap (λ (l : List ℕ). cond (eqb x 0) [] (x ∷ l)) (front_left xs r)

leftovers : (a r b : List ℕ) → equal (a ++ 0 ∷ r) b ≡ equal a b
unfolding equal
leftovers a r b = ap (λ (l : List ℕ). same_bytes l (front_of b)) (front_left a r)

empty : (r : List ℕ) (x : ℕ) (b : List ℕ) → equal (0 ∷ r) (x ∷ b) ≡ eqb x 0
unfolding equal front_of same_bytes
empty r x b = begins (eqb x 0)
  where
    begins : (t : Bool) → same_bytes [] (cond t [] (x ∷ front_of b)) ≡ t
    begins true = refl
    begins false = refl

pub equal_names : EqualNames
equal_names =
    record {
      reflexive = λ a. same_fronts a a refl;
      symmetric = λ a b e. same_fronts b a (sym (no_others a b e));
      transitive = λ a b c e f. same_fronts a c (no_others a b e ∙ no_others b c f);
      same_names = λ a b e. same_fronts a b (ap front_of e);
      same_fronts = same_fronts;
      no_others = no_others;
      leftovers = leftovers;
      empty = empty;
    }

-- ---- byte by byte

-- the first byte of a front, a front being followed by zeros
front_head : (x : ℕ) (a : List ℕ) → get_or (front_of (x ∷ a)) 0 0 ≡ x
unfolding front_of
front_head zero a = refl
front_head (suc x) a = rw (ne_eqb (suc x) 0 (suc-ne-zero x)) refl

module _ (x y : ℕ) (a b : List ℕ) where
  pub equal_differ : (x ≡ y → ⊥) → equal (x ∷ a) (y ∷ b) ≡ false
  equal_differ h = (not-eq-not {b = false}).0 (λ e. h (sym (front_head x a) ∙ (ap (λ (l : List ℕ). get_or l 0 0) (no_others (x ∷ a) (y ∷ b) e) ∙ front_head y b)))

  pub equal_ends : x ≡ y → x ≡ 0 → equal (x ∷ a) (y ∷ b) ≡ true
  equal_ends e z = rw (sym e, z) (empty a 0 b)

  pub equal_goes_on : x ≡ y → (x ≡ 0 → ⊥) → equal (x ∷ a) (y ∷ b) ≡ equal a b
  unfolding equal front_of same_bytes
  equal_goes_on e h = rw (sym e, ne_eqb x 0 h, eq-eqb x x refl) refl

-- a name from byte k on, a name being followed by zeros
front_from : (a : Name) (k : ℕ) → front_of (drop k a) ≡ front_of (get_or a k 0 ∷ drop (suc k) a)
unfolding front_of
front_from [] k = rw (drop-nil k) refl
front_from (x ∷ xs) zero = refl
front_from (x ∷ xs) (suc k) = front_from xs k

pub equal_from : (a b : Name) (k : ℕ) → equal (drop k a) (drop k b) ≡ equal (get_or a k 0 ∷ drop (suc k) a) (get_or b k 0 ∷ drop (suc k) b)
unfolding equal
equal_from a b k = rw (front_from a k, front_from b k) refl
