-- Writes that leave a part of a list as it was, and pieces of one width that stand one after the other. Assumes nothing.
use Prim.Native.Nat.{ℕ, zero, suc, ◌+◌, ◌-◌, ◌*◌, ◌≤◌, ◌<◌}
use mathlib.Core.List.{List, [], ◌∷◌, ◌++◌, append_assoc}
use mathlib.Core.Path.{◌≡◌, refl, sym, ap, ◌∙◌}
use native.Mathlib.Nat.{mul-zero}
use native.Mathlib.Omega.{arith}
use lib.ListN.{length, set, take, drop, length-append}
use lib.Seq.{sets, sets-eq, take-set-le, drop-set-lt, drop-set-add, take-add, drop-drop, take-append_seam, drop-append-add, drop_at, length-take-le}

module _ {A : Type 0} where
  -- ---- what is written, and what stands before it and behind it

  pub written_there : (v l : List A) (i : ℕ) → i + length v ≤ length l → take (length v) (drop i (sets l i v)) ≡ v
  written_there v l i h =
      let r = drop (i + length v) l in
      ap (λ (m : List A). take (length v) (drop i m)) (sets-eq v l i h ∙ append_assoc (take i l) v r)
      ∙ ap (take (length v)) (drop_at (take i l) (v ++ r) i (length-take-le i l (omega arith)))
      ∙ take-append_seam v r

  pub kept_before : (v l : List A) (i p n : ℕ) → p + n ≤ i → take n (drop p (sets l i v)) ≡ take n (drop p l)
  kept_before [] l i p n h = refl
  kept_before (a ∷ v) l i p n h =
      let e : i ≡ p + (i - p) = omega arith in
      kept_before v (set l i a) (suc i) p n (omega arith)
      ∙ ap (λ (k : ℕ). take n (drop p (set l k a))) e
      ∙ ap (take n) (drop-set-add p l (i - p) a)
      ∙ take-set-le n (drop p l) (i - p) a (omega arith)

  pub kept_behind : (v l : List A) (i p : ℕ) → i + length v ≤ p → drop p (sets l i v) ≡ drop p l
  kept_behind [] l i p h = refl
  kept_behind (a ∷ v) l i p h = kept_behind v (set l i a) (suc i) p (omega arith) ∙ drop-set-lt p l i a (omega arith)

  -- ---- n pieces, joined

  abbrev pub joined : (ℕ → List A) → ℕ → List A
  joined g zero = []
  joined g (suc n) = g 0 ++ joined (λ k. g (suc k)) n

  pub joined_same : (g h : ℕ → List A) → ((k : ℕ) → g k ≡ h k) → (n : ℕ) → joined g n ≡ joined h n
  joined_same g h e zero = refl
  joined_same g h e (suc n) = rw (e 0, joined_same (λ k. g (suc k)) (λ k. h (suc k)) (λ k. e (suc k)) n) refl

  -- a list whose places of a width hold the pieces begins with them
  pub pieces_joined : (w : ℕ) (g : ℕ → List A) (n : ℕ) (l : List A) → ((k : ℕ) → k < n → take w (drop (w * k) l) ≡ g k) → take (w * n) l ≡ joined g n
  pieces_joined w g zero l h = ap (λ (k : ℕ). take k l) (mul-zero w)
  pieces_joined w g (suc n) l h =
      let next : (k : ℕ) → w * suc k ≡ w + w * k = λ k. omega arith in
      let none : 0 ≡ w * 0 = omega arith in
      ap (λ (k : ℕ). take k l) (next n)
      ∙ take-add w (w * n) l
      ∙ ap (λ (x : List A). x ++ take (w * n) (drop w l)) (ap (λ (k : ℕ). take w (drop k l)) none ∙ h 0 (omega arith))
      ∙ ap (λ (x : List A). g 0 ++ x)
      (pieces_joined w (λ k. g (suc k)) n (drop w l) (λ k q. ap (take w) (drop-drop (w * k) w l ∙ ap (λ (j : ℕ). drop j l) (sym (next k))) ∙ h (suc k) (omega arith)))

  module _ (w : ℕ) where
    pub joined_length : (g : ℕ → List A) → ((k : ℕ) → length (g k) ≡ w) → (n : ℕ) → length (joined g n) ≡ w * n
    joined_length g e zero = sym (mul-zero w)
    joined_length g e (suc n) =
        let q = joined_length (λ k. g (suc k)) (λ k. e (suc k)) n in
        let p = e 0 in
        length-append (g 0) (joined (λ k. g (suc k)) n) ∙ omega arith

    -- piece k stands at its place, and something behind it
    pub joined_at : (g : ℕ → List A) → ((k : ℕ) → length (g k) ≡ w) → (n k : ℕ) → k < n → (r : List A) × (drop (w * k) (joined g n) ≡ g k ++ r)
    joined_at g e zero k h = absurd (omega arith)
    joined_at g e (suc n) zero h = (joined (λ k. g (suc k)) n, ap (λ (j : ℕ). drop j (joined g (suc n))) (mul-zero w))
    joined_at g e (suc n) (suc k) h =
        let x = joined_at (λ j. g (suc j)) (λ j. e (suc j)) n k (omega arith) in
        let p = e 0 in
        let next : w * suc k ≡ length (g 0) + w * k = omega arith in
        (x.0, ap (λ (j : ℕ). drop j (joined g (suc n))) next ∙ drop-append-add (g 0) (joined (λ j. g (suc j)) n) (w * k) ∙ x.1)
