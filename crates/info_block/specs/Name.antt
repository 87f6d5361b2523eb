-- Names: sixteen bytes. Assumes nothing.
use Rattle.std.specs.Prelude.{ℕ, suc, ◌<◌, Bool, true, false, cond, ◌&&◌, List, [], ◌∷◌, ◌++◌, ◌↔◌, ◌≡◌, ltb, eqb, length, get_or}
use Rattle.std.proofs.Math.Option.{Option, none, some, map}
use Rattle.util.specs.Reader.{Verdict, answered, given}

abbrev pub Name : Type 0
Name = List ℕ

-- the front of a name: its bytes before the first zero byte, or all of them
unfoldable pub front_of : Name → List ℕ
front_of [] = []
front_of (b ∷ bs) = cond (eqb b 0) [] (b ∷ front_of bs)

-- whether two lists of bytes are the same
unfoldable pub same_bytes : List ℕ → List ℕ → Bool
same_bytes [] [] = true
same_bytes [] (y ∷ ys) = false
same_bytes (x ∷ xs) [] = false
same_bytes (x ∷ xs) (y ∷ ys) = eqb x y && same_bytes xs ys

-- names are equal when their fronts are
unfoldable pub equal : Name → Name → Bool
equal a b = same_bytes (front_of a) (front_of b)

-- What is promised of equal names. Proved in proofs/EqualLaws.antt.
pub record EqualNames : Type 0 where
  pub reflexive : (a : Name) → equal a a ≡ true
  pub symmetric : (a b : Name) → equal a b ≡ true → equal b a ≡ true
  pub transitive : (a b c : Name) → equal a b ≡ true → equal b c ≡ true → equal a c ≡ true
  -- names of the same bytes are equal; so are names of the same front, and no others
  pub same_names : (a b : Name) → a ≡ b → equal a b ≡ true
  pub same_fronts : (a b : Name) → front_of a ≡ front_of b → equal a b ≡ true
  pub no_others : (a b : Name) → equal a b ≡ true → front_of a ≡ front_of b
  -- a zero and whatever stands after it change nothing
  pub leftovers : (a r b : List ℕ) → equal (a ++ 0 ∷ r) b ≡ equal a b
  -- an empty name, one that begins with a zero, equals exactly those that do
  pub empty : (r : List ℕ) (x : ℕ) (b : List ℕ) → equal (0 ∷ r) (x ∷ b) ≡ eqb x 0

-- the index of the earliest of some names that equals a given one, or none
unfoldable pub earliest : Name → List Name → Option ℕ
earliest name [] = none
earliest name (x ∷ xs) = cond (equal name x) (some 0) (map suc (earliest name xs))

-- name i of some names equals a given one
abbrev pub Named : Name → List Name → ℕ → Type 0
Named name names i = (i < length names) × (equal name (get_or names i []) ≡ true)

-- .. and none of a lower index does
abbrev pub Lowest : Name → List Name → ℕ → Type 0
Lowest name names i = Named name names i × ((j : ℕ) → j < i → Named name names j → ⊥)

-- What is promised of the earliest. Proved in proofs/EarliestLaws.antt.
pub record EarliestName : Type 0 where
  -- an index is answered exactly if it is the lowest of an equal name
  pub found : (name : Name) (names : List Name) (i : ℕ) → (earliest name names ≡ some i) ↔ Lowest name names i
  -- none is answered exactly if no name is equal
  pub nothing : (name : Name) (names : List Name) → (earliest name names ≡ none) ↔ ((i : ℕ) → Named name names i → ⊥)

-- name i of some names; 9 past the list
abbrev pub name_among : List Name → ℕ → Verdict Name
name_among names i = given (ltb i (length names)) 9 (answered (get_or names i []))
