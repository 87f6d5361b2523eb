-- What a `?` returns of a refusal. Assumes nothing.
use Prim.Native.Nat.{ℕ}
use mathlib.Core.List.{List}
use mathlib.Core.Path.{◌≡◌, sym, ap, subst, ◌∙◌}
use Rattle.std.specs.Prelude.{Result, Ok, Err}
use Rattle.std.specs.Result.{IsErrAnd}
use Rattle.util.specs.declared.refusal.Refusal.{Refusal}
use Rattle.util.specs.declared.refusal.Refusal.TheVariants.{TooShort}
use Rattle.util.specs.RefusalCode.{number_of}
use Rattle.util.specs.Reader.{Reader, Outcome, refused, run}
use Rattle.util.specs.ReaderCode.{Reads, IsRead}

module _ {X : Type 0} (e : Refusal) where
  -- it is that refusal
  pub passed_on : (x : Result X Refusal) → IsErrAnd x (λ y. y ≡ e) → x ≡ Err e
  passed_on (Ok v) h = absurd h
  passed_on (Err y) h = ap Err h

  -- where a reader is refused with it, that is what the code answers of the reader
  pub refuses : {A : Type 0} {means : X → Outcome A} {Holds : X → Type 0} {r : Reader A} {s : List ℕ} {m : ℕ} (x : Result X Refusal) → IsErrAnd x (λ y. y ≡ e) → run r s m ≡ refused (number_of e) → Reads means Holds r s m x
  refuses {A} {means} {Holds} {r} {s} {m} x h k = subst (Reads means Holds r s m) (sym (passed_on x h)) (record { reads = k; holds = tt })

  -- .. as too short
  pub too_short : {A : Type 0} {means : X → Outcome A} {Holds : X → Type 0} {r : Reader A} {s : List ℕ} {m : ℕ} (x : Result X Refusal) → IsErrAnd x (λ y. y ≡ e) → e ≡ TooShort → run r s m ≡ refused 2 → Reads means Holds r s m x
  too_short x h q k = refuses x h (k ∙ ap (λ (y : Refusal). refused (number_of y)) (sym q))

  -- .. and where code answers what a reader comes to
  pub stopped : {A : Type 0} (Whole : X → Type 0) (o : Outcome A) (x : Result X Refusal) → IsErrAnd x (λ y. y ≡ e) → o ≡ refused (number_of e) → IsRead Whole o x
  stopped Whole o x h k = subst (IsRead Whole o) (sym (passed_on x h)) k
