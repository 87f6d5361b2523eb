-- Readers none of whose refusals has the number 0. Assumes nothing.
use Prim.Native.Nat.{ℕ, ◌+◌, max, ◌≤◌, ◌<◌}
use mathlib.Core.Bool.{Bool, true, false, cond}
use mathlib.Core.List.{List, [], ◌∷◌}
use mathlib.Core.Logic.{⊎_elim}
use mathlib.Core.Path.{◌≡◌}
use native.Mathlib.Omega.{arith}
use lib.ListN.{take, drop}
use Rattle.util.specs.Reader.{Reader, done, refuse, part, refused, run, bind, each, unless}
use Rattle.util.specs.Place.{within}
use Rattle.util.proofs.Cut.{le_or_lt, had_refused}

module _ {A : Type 0} where
  -- no refusal has the number 0, whatever bytes the parts hold
  abbrev pub Numbered : Reader A → Type 0
  Numbered (done a) = Unit {0}
  Numbered (refuse n) = 0 < n
  Numbered (part p n rest) = (bs : List ℕ) → Numbered (rest bs)

  -- nor has the outcome of its run: a part that is not there is refused as 2
  pub run_number : (r : Reader A) → Numbered r → (s : List ℕ) (m n : ℕ) → run r s m ≡ refused n → 0 < n
  unfolding run
  run_number (done a) h s m n e = let z : ◌≡◌ {A = ℕ} 0 1 = cc in absurd (omega arith)
  run_number (refuse k) h s m n e = let q : k ≡ n = cc in omega arith
  run_number (part p k rest) h s m n e =
      let bs = take k (drop p s) in
      ⊎_elim
      (λ (l : 1 ≤ n). omega arith)
      (λ (l : n < 1). run_number (rest bs) (h bs) s (max m (p + k)) n (had_refused _ _ _ n e (λ q. omega arith)).1)
      (le_or_lt 1 n)

  pub numbered_cond : (b : Bool) (r q : Reader A) → Numbered r → Numbered q → Numbered (cond b r q)
  numbered_cond true r q h l = h
  numbered_cond false r q h l = l

  pub numbered_within : (b : ℕ) (r : Reader A) → Numbered r → Numbered (within b r)
  unfolding within
  numbered_within b (done a) h = tt
  numbered_within b (refuse n) h = h
  numbered_within b (part p n rest) h = λ bs. numbered_within b (rest bs) (h bs)

  -- a test, and what follows
  pub numbered_test : (b : Bool) (n : ℕ) (r : Reader A) → 0 < n → Numbered r → Numbered (bind (unless b n) (λ _. r))
  unfolding bind unless
  numbered_test true n r l h = h
  numbered_test false n r l h = l

module _ {A B : Type 0} where
  pub numbered_bind : (r : Reader A) (f : A → Reader B) → Numbered r → ((a : A) → Numbered (f a)) → Numbered (bind r f)
  unfolding bind
  numbered_bind (done a) f h k = k a
  numbered_bind (refuse n) f h k = h
  numbered_bind (part p n rest) f h k = λ bs. numbered_bind (rest bs) f (h bs) k

module _ {A B : Type 0} where
  pub numbered_each : (f : A → Reader B) → ((x : A) → Numbered (f x)) → (xs : List A) → Numbered (each f xs)
  unfolding each
  numbered_each f h [] = tt
  numbered_each f h (x ∷ xs) = numbered_bind (f x) _ (h x) (λ _. numbered_bind (each f xs) _ (numbered_each f h xs) (λ _. tt))
