-- What code answers of a reader, in one style for every reader. Assumes nothing.
use Rattle.std.specs.Prelude.{ℕ, ◌+◌, ◌<◌, List, ◌≡◌, Result, Ok, Err, IfOk}
use Rattle.util.specs.declared.refusal.Refusal.{Refusal}
use Rattle.util.specs.declared.cur.Tally.{Tally}
use Rattle.util.specs.RefusalCode.{number_of}
use Rattle.util.specs.Reader.{Reader, Outcome, accepted, refused, Verdict, answered, denied, run}

module _ {X A : Type 0} where
  -- the outcome that code's answer stands for: `means` says which, of what it read; a refusal stands for its number
  abbrev pub outcome : (X → Outcome A) → Result X Refusal → Outcome A
  outcome means (Ok x) = means x
  outcome means (Err e) = refused (number_of e)

  -- .. and of an answer without its reach
  abbrev pub verdict : (X → A) → Result X Refusal → Verdict A
  verdict means (Ok x) = answered (means x)
  verdict means (Err e) = denied (number_of e)

-- how far code went that only follows a reader's parts
abbrev pub reached : ℕ → Outcome (Unit {0})
reached m = accepted m tt

-- .. and that also counts what it follows
abbrev pub tallied : Tally → Outcome ℕ
tallied t = accepted t.reach t.samples

module _ {A B : Type 0} where
  -- an outcome by a number or the like of its value
  abbrev pub tally_of : (A → B) → Outcome A → Outcome B
  tally_of count (accepted m a) = accepted m (count a)
  tally_of count (refused n) = refused n

-- .. by nothing of it
abbrev pub reach_of : {A : Type 0} → Outcome A → Outcome (Unit {0})
reach_of o = tally_of (λ _. tt) o

-- x is the code's answer for the reader r on the bytes s, after parts that reach as far as `reach`: `means` says which outcome it stands for
-- where it is no refusal, and `Holds` what is known of it then.
pub record Reads {A X : Type 0} (means : X → Outcome A) (Holds : X → Type 0) (r : Reader A) (s : List ℕ) (reach : ℕ) (x : Result X Refusal) : Type 0 where
  pub reads : run r s reach ≡ outcome means x
  pub holds : IfOk x Holds

-- x is the code's answer where a reader comes to the outcome o: `Whole` is known of what it read, or it says why o is refused
abbrev pub IsRead : {A X : Type 0} → (X → Type 0) → Outcome A → Result X Refusal → Type 0
IsRead Whole o (Ok x) = Whole x
IsRead Whole o (Err e) = o ≡ refused (number_of e)

-- What is left of some items, from item i on, after parts that reach as far as m and a count of c: `left i m c`. `post i m x` says that x may be
-- answered of item i.
pub record Follows (post : ℕ → ℕ → Result Tally Refusal → Type 0) (count : ℕ) (left : ℕ → ℕ → ℕ → Outcome ℕ) : Type 0 where
  pub whole : (i m c : ℕ) (t : Tally) → i < count → post i m (Ok t) → left (i + 1) t.reach (c + t.samples) ≡ left i m c
  pub ended : (i m c : ℕ) (e : Refusal) → i < count → post i m (Err e) → refused (number_of e) ≡ left i m c
  pub none : (m c : ℕ) → accepted m c ≡ left count m c
