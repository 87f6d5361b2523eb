-- From one reader's answer to another's. Assumes nothing.
use Prim.Native.Nat.{ℕ}
use mathlib.Core.Bool.{Bool, true, false}
use mathlib.Core.List.{List}
use mathlib.Core.Path.{◌≡◌, refl, subst, ◌∙◌}
use native.Mathlib.Omega.{arith}
use Rattle.std.specs.Prelude.{Result}
use Rattle.util.specs.declared.refusal.Refusal.{Refusal}
use Rattle.util.specs.Reader.{Reader, done, Outcome, accepted, refused, run, bind, unless}
use Rattle.util.specs.ReaderCode.{Reads}
use Rattle.util.proofs.Calls.{after, run_bind_as}

module _ {A X : Type 0} {means : X → Outcome A} {Holds : X → Type 0} {s : List ℕ} where
  -- readers that run alike are read alike
  pub alike : {r r' : Reader A} {m m' : ℕ} {x : Result X Refusal} → run r s m ≡ run r' s m' → Reads means Holds r' s m' x → Reads means Holds r s m x
  alike e h = record { reads = e ∙ h.reads; holds = h.holds }

  -- the answer, once its case is known
  pub known : {r : Reader A} {m : ℕ} {x y : Result X Refusal} → x ≡ y → Reads means Holds r s m x → Reads means Holds r s m y
  known {r} {m} q h = subst (Reads means Holds r s m) q h

module _ {A B : Type 0} (r : Reader A) (f : A → Reader B) (s : List ℕ) (m : ℕ) where
  -- the first reader is accepted: go on
  pub goes_on : (j : ℕ) (a : A) → run r s m ≡ accepted j a → run (bind r f) s m ≡ run (f a) s j
  unfolding after
  goes_on j a e = run_bind_as r f s m (accepted j a) e

  -- the first reader is refused, and so are both
  pub stops : (n : ℕ) → run r s m ≡ refused n → run (bind r f) s m ≡ refused n
  unfolding after
  stops n e = run_bind_as r f s m (refused n) e

-- what is accepted where nothing more is read
pub done_is : {A : Type 0} (a : A) (s : List ℕ) (m j : ℕ) (b : A) → run (done a) s m ≡ accepted j b → a ≡ b
unfolding run
done_is a s m j b e = cc

-- a test that was passed holds
pub test_held : (b : Bool) (n : ℕ) (s : List ℕ) (m j : ℕ) (u : Unit {0}) → run (unless b n) s m ≡ accepted j u → b ≡ true
unfolding run unless
test_held true n s m j u e = refl
test_held false n s m j u e = let z : ◌≡◌ {A = ℕ} 0 1 = cc in absurd (omega arith)

module _ {A : Type 0} {o : Outcome A} where
  -- an outcome has one value, and is not refused too
  pub one_value : {j k : ℕ} {a b : A} → o ≡ accepted j a → o ≡ accepted k b → a ≡ b
  one_value p q = cc

  pub not_both : {j n : ℕ} {a : A} → o ≡ accepted j a → o ≡ refused n → ⊥
  not_both p q = let z : ◌≡◌ {A = ℕ} 0 1 = cc in omega arith
