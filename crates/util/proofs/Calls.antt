-- A call reads, and then says something of what it read, without reading more: what a cut leaves of the first, it leaves of the call.
-- Assumes nothing.
use Prim.Native.Nat.{ℕ, ◌+◌, max}
use mathlib.Core.Bool.{Bool, true, false}
use mathlib.Core.List.{List}
use mathlib.Core.Path.{◌≡◌, refl, sym, ap, ◌∙◌}
use native.Mathlib.Omega.{arith}
use lib.Dec.{leb}
use lib.ListN.{length, take, drop}
use Rattle.util.specs.Reader.{Reader, done, refuse, part, Outcome, accepted, refused, pick, ends, run, bind, Verdict, answered, denied, tell}

module _ {A B : Type 0} where
  -- the rest of a run, on what the first reader found
  unfoldable pub after : Outcome A → (ℕ → A → Outcome B) → Outcome B
  after (accepted m a) f = f m a
  after (refused n) f = refused n

  after_ends : (e n : ℕ) (o : Outcome A) (f : ℕ → A → Outcome B) → after (ends e n o) f ≡ ends e n (after o f)
  unfolding ends after
  after_ends e n o f = go (leb e n)
    where
      go : (b : Bool) → after (pick b o) f ≡ pick b (after o f)
      go true = refl
      go false = refl

  pub run_bind : (r : Reader A) (f : A → Reader B) (s : List ℕ) (m : ℕ) → run (bind r f) s m ≡ after (run r s m) (λ j a. run (f a) s j)
  unfolding run bind after
  run_bind (done a) f s m = refl
  run_bind (refuse n) f s m = refl
  run_bind (part p n k) f s m =
      ap (ends (p + n) (length s)) (run_bind (k (take n (drop p s))) f s (max m (p + n))) ∙ sym (after_ends (p + n) (length s) (run (k (take n (drop p s))) s (max m (p + n))) (λ j a. run (f a) s j))

  -- where both run on the same outcome
  pub run_bind_as : (r : Reader A) (f : A → Reader B) (s : List ℕ) (m : ℕ) (o : Outcome A) → run r s m ≡ o → run (bind r f) s m ≡ after o (λ j a. run (f a) s j)
  run_bind_as r f s m o e = run_bind r f s m ∙ ap (λ (x : Outcome A). after x (λ j a. run (f a) s j)) e

  -- an accepted run had its first reader accepted
  pub accepted_first : (r : Reader A) (f : A → Reader B) (s : List ℕ) (m m' : ℕ) (b : B) → run (bind r f) s m ≡ accepted m' b
      → (j : ℕ) × (a : A) × (run r s m ≡ accepted j a) × (run (f a) s j ≡ accepted m' b)
  unfolding after
  accepted_first r f s m m' b e = go (run r s m) refl (sym (run_bind r f s m) ∙ e)
    where
      go : (o : Outcome A) → run r s m ≡ o → after o (λ j a. run (f a) s j) ≡ accepted m' b
          → (j : ℕ) × (a : A) × (run r s m ≡ accepted j a) × (run (f a) s j ≡ accepted m' b)
      go (accepted j a) q w = (j, a, q, w)
      go (refused n) q w = let z : ◌≡◌ {A = ℕ} 0 1 = cc in absurd (omega arith)

  -- a refused run whose second reader refuses nothing had its first reader refused
  pub refused_first : (r : Reader A) (f : A → B) (s : List ℕ) (m n : ℕ) → run (bind r (λ x. done (f x))) s m ≡ refused n → run r s m ≡ refused n
  unfolding run after
  refused_first r f s m n e = go (run r s m) (sym (run_bind r (λ x. done (f x)) s m) ∙ e)
    where
      go : (o : Outcome A) → after o (λ j a. accepted j (f a)) ≡ refused n → o ≡ refused n
      go (accepted j a) q = let z : ◌≡◌ {A = ℕ} 0 1 = cc in absurd (omega arith)
      go (refused k) q = let z : k ≡ n = cc in ap refused z

module _ {B : Type 0} where
  silent : (v : Verdict B) (s s' : List ℕ) (m : ℕ) → run (tell v) s m ≡ run (tell v) s' m
  unfolding run
  silent (answered b) s s' m = refl
  silent (denied n) s s' m = refl

module _ {A B : Type 0} (r : Reader A) (f : A → Verdict B) where
  -- what is read alike is answered alike, or refused alike
  pub answered_alike : (s s' : List ℕ) (m : ℕ) → run r s' m ≡ run r s m → run (bind r (λ x. tell (f x))) s' m ≡ run (bind r (λ x. tell (f x))) s m
  unfolding after
  answered_alike s s' m e = run_bind_as r (λ x. tell (f x)) s' m (run r s m) e ∙ (go (run r s m) ∙ sym (run_bind r (λ x. tell (f x)) s m))
    where
      go : (o : Outcome A) → after o (λ j a. run (tell (f a)) s' j) ≡ after o (λ j a. run (tell (f a)) s j)
      go (accepted j a) = silent (f a) s' s j
      go (refused n) = refl
