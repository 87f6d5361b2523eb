-- A reader placed at an entry's offset is the reader on what follows the offset. Assumes nothing.
use Prim.Native.Nat.{ℕ, ◌+◌, ◌-◌, max, ◌≤◌, ◌<◌}
use mathlib.Core.Bool.{Bool, true, false}
use mathlib.Core.List.{List}
use mathlib.Core.Logic.{⊎_elim}
use mathlib.Core.Path.{◌≡◌, refl, sym, ap, ◌∙◌}
use native.Mathlib.Nat.{add_assoc}
use native.Mathlib.Omega.{arith}
use borrow.Author.Tests.{le-leb, lt-leb}
use lib.Dec.{leb}
use lib.ListN.{length, take, drop, length-drop}
use lib.Seq.{drop-drop}
use Rattle.util.specs.Reader.{Reader, done, refuse, part, Outcome, accepted, refused, pick, ends, run}
use Rattle.util.specs.Place.{within, moved, raised}
use Rattle.util.proofs.Cut.{le_or_lt, short}

max-max : (m a b : ℕ) → max m (max a b) ≡ max (max m a) b
max-max m a b = omega arith

move_max : (b m e : ℕ) → max (b + m) (b + e) ≡ b + max m e
move_max b m e = omega arith

first_part : (b p n : ℕ) → max 0 (b + p + n) ≡ max (b + 0) (b + p + n)
first_part b p n = omega arith

module _ {A : Type 0} where
  raise_ends : (m e n : ℕ) (o : Outcome A) → raised m (ends e n o) ≡ ends e n (raised m o)
  unfolding ends raised
  raise_ends m e n o = go (leb e n)
    where
      go : (b : Bool) → raised m (pick b o) ≡ pick b (raised m o)
      go true = refl
      go false = refl

  raise_raise : (m k : ℕ) (o : Outcome A) → raised m (raised k o) ≡ raised (max m k) o
  unfolding raised
  raise_raise m k (accepted j a) = ap (λ (x : ℕ). accepted x a) (max-max m k j)
  raise_raise m k (refused n) = refl

  -- what was read before only raises the reach
  pub run_raised : (r : Reader A) (s : List ℕ) (m : ℕ) → run r s m ≡ raised m (run r s 0)
  unfolding run raised
  run_raised (done a) s m = ap (λ (x : ℕ). accepted x a) (omega arith)
  run_raised (refuse n) s m = refl
  run_raised (part p n k) s m =
      step (run_raised (k (take n (drop p s))) s (max m (p + n))) (run_raised (k (take n (drop p s))) s (max 0 (p + n)))
    where
      widen : (m e : ℕ) → max m e ≡ max m (max 0 e)
      widen m e = omega arith

      o : ℕ → Outcome A
      o j = run (k (take n (drop p s))) s j

      step : o (max m (p + n)) ≡ raised (max m (p + n)) (o 0) → o (max 0 (p + n)) ≡ raised (max 0 (p + n)) (o 0) → ends (p + n) (length s) (o (max m (p + n))) ≡ raised m (ends (p + n) (length s) (o (max 0 (p + n))))
      step a b =
          ap (ends (p + n) (length s)) (a ∙ (ap (λ (x : ℕ). raised x (o 0)) (widen m (p + n)) ∙ (sym (raise_raise m (max 0 (p + n)) (o 0)) ∙ ap (raised m) (sym b))))
          ∙ sym (raise_ends m (p + n) (length s) (o (max 0 (p + n))))

  move_ends : (b e n : ℕ) (o : Outcome A) → b ≤ n → moved b (ends e (n - b) o) ≡ ends (b + e) n (moved b o)
  unfolding ends moved
  move_ends b e n o h =
      ⊎_elim
      (λ (i : b + e ≤ n). let j : e ≤ n - b = omega arith in rw (le-leb e (n - b) j, le-leb (b + e) n i) refl)
      (λ (i : n < b + e). let j : n - b < e = omega arith in rw (lt-leb e (n - b) j, lt-leb (b + e) n i) refl)
      (le_or_lt (b + e) n)

  run_moved : (b : ℕ) (r : Reader A) (s : List ℕ) (m : ℕ) → b ≤ length s → run (within b r) s (b + m) ≡ moved b (run r (drop b s) m)
  unfolding run within moved
  run_moved b (done a) s m h = refl
  run_moved b (refuse n) s m h = refl
  run_moved b (part p n k) s m h =
      let e : b + p + n ≡ b + (p + n) = add_assoc b p n in
      let ih = run_moved b (k (take n (drop p (drop b s)))) s (max m (p + n)) h in
      rw (e, move_max b m (p + n), ← drop-drop p b s) (ap (ends (b + (p + n)) (length s)) ih ∙ rw (length-drop b s) (sym (move_ends b (p + n) (length s) (run (k (take n (drop p (drop b s)))) (drop b s) (max m (p + n))) h)))

  inside : (b p n : ℕ) (k : List ℕ → Reader A) (s : List ℕ) → b ≤ length s → run (within b (part p n k)) s 0 ≡ moved b (run (part p n k) (drop b s) 0)
  unfolding run within
  inside b p n k s l =
      ap (λ (j : ℕ). ends (b + p + n) (length s) (run (within b (k (take n (drop (b + p) s)))) s j)) (first_part b p n) ∙ run_moved b (part p n k) s 0 l

  outside : (b p n : ℕ) (k : List ℕ → Reader A) (s : List ℕ) → 0 < p + n → length s < b
      → run (within b (part p n k)) s 0 ≡ moved b (run (part p n k) (drop b s) 0)
  unfolding run within moved
  outside b p n k s h l =
      let a : length s < b + p + n = omega arith in
      let c : length (drop b s) < p + n = simp length-drop (omega arith) in
      short _ _ _ a ∙ sym (ap (moved b) (short _ _ _ c))

  -- neither changes the value
  pub lowered : (m b : ℕ) (o : Outcome A) (j : ℕ) (a : A) → raised m (moved b o) ≡ accepted j a → (k : ℕ) × (o ≡ accepted k a)
  unfolding raised moved
  lowered m b (accepted k c) j a e = let q : c ≡ a = cc in (k, ap (λ (x : A). accepted k x) q)
  lowered m b (refused n) j a e = let z : ◌≡◌ {A = ℕ} 0 1 = cc in absurd (omega arith)

  -- an entry's reader, which begins with a part, is that reader on what follows the entry's offset: the reach is moved by the offset,
  -- and raised to what was read before. An offset past the section leaves it no byte.
  pub run_within : (b p n : ℕ) (k : List ℕ → Reader A) (s : List ℕ) (m : ℕ) → 0 < p + n
      → run (within b (part p n k)) s m ≡ raised m (moved b (run (part p n k) (drop b s) 0))
  run_within b p n k s m h =
      run_raised (within b (part p n k)) s m ∙ ap (raised m) (⊎_elim (inside b p n k s) (outside b p n k s h) (le_or_lt b (length s)))
