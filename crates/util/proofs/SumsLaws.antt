-- Sums: by index, and how large they are at most. Assumes nothing.
use Prim.Native.Nat.{ℕ, zero, suc, ◌+◌, ◌*◌, ◌≤◌, ◌<◌}
use mathlib.Core.List.{List, [], ◌∷◌, map}
use mathlib.Core.Path.{◌≡◌, refl, sym, ap, ◌∙◌}
use native.Mathlib.Nat.{add-zero, zero-add, add_assoc}
use native.Mathlib.Omega.{arith}
use lib.ListN.{length, take, get_or}
use Rattle.util.specs.Reader.{Reader, Outcome, accepted, refused, run}
use Rattle.util.specs.ReaderCode.{tally_of}
use Rattle.util.specs.Sums.{total, sum_to}
use Rattle.util.proofs.All.{Bytes, Each, All, all_run}

-- ---- a sum over indexes

-- the first by itself
sum_first : (n : ℕ) (f : ℕ → ℕ) → sum_to (suc n) f ≡ f 0 + sum_to n (λ i. f (suc i))
unfolding sum_to
sum_first zero f = zero-add (f 0) ∙ sym (add-zero (f 0))
sum_first (suc n) f = ap (λ (x : ℕ). x + f (suc n)) (sum_first n f) ∙ add_assoc (f 0) (sum_to n (λ i. f (suc i))) (f (suc n))

-- sums whose items are equal
pub sum_alike : (n : ℕ) (f g : ℕ → ℕ) → ((i : ℕ) → i < n → f i ≡ g i) → sum_to n f ≡ sum_to n g
unfolding sum_to
sum_alike zero f g h = refl
sum_alike (suc n) f g h = let a = sum_alike n f g (λ i l. h i (omega arith)) in let b = h n (omega arith) in cc

-- the sum over a list is the sum over its indexes
pub total-sum : {A : Type 0} (g : A → ℕ) (d : A) (xs : List A) (f : ℕ → ℕ) → ((i : ℕ) → i < length xs → f i ≡ g (get_or xs i d)) → total g xs ≡ sum_to (length xs) f
unfolding total sum_to
total-sum g d [] f h = refl
total-sum g d (x ∷ xs) f h =
    let a = total-sum g d xs (λ i. f (suc i)) (λ i l. h (suc i) (omega arith)) in
    let b : f 0 ≡ g x = h 0 (omega arith) in
    let c = sum_first (length xs) f in
    cc

-- the sum over the first k items, by what f gives of each
pub total-take : {A : Type 0} (f : A → ℕ) (k : ℕ) (xs : List A) → total f (take k xs) ≡ total (λ n. n) (take k (map f xs))
unfolding total
total-take f zero xs = refl
total-take f (suc k) [] = refl
total-take f (suc k) (x ∷ xs) = ap (λ (n : ℕ). f x + n) (total-take f k xs)

-- ---- where each is at most b

-- 2^40: the lists of an entry have fewer values together, and those of 255 entries far fewer than 64 bits can count
abbrev pub entry_bound : ℕ
entry_bound = 1099511627776

module _ {A : Type 0} (g : A → ℕ) (b : ℕ) where
  pub total-le : (xs : List A) → Each (λ x. g x ≤ b) xs → total g xs ≤ b * length xs
  unfolding total
  total-le [] h = omega arith
  total-le (x ∷ xs) h = let k : g x ≤ b = h.0 in let l = total-le xs h.1 in omega arith

  -- the count of what a reader gives, by what code answers of it
  pub tally_le : (r : Reader A) → All (λ a. g a ≤ b) r → (s : List ℕ) → Bytes s → (m : ℕ) (x : Outcome ℕ) → x ≡ tally_of g (run r s m) → (j c : ℕ) → x ≡ accepted j c → c ≤ b
  tally_le r h s y m x e j c q = go (run r s m) refl (sym e ∙ q)
    where
      go : (o : Outcome A) → run r s m ≡ o → tally_of g o ≡ accepted j c → c ≤ b
      go (accepted k a) q w =
          let l : g a ≤ b = all_run (λ x. g x ≤ b) r h s y m k a q in
          let p : g a ≡ c = cc in
          omega arith
      go (refused n) q w = let z : ◌≡◌ {A = ℕ} 0 1 = cc in absurd (omega arith)
