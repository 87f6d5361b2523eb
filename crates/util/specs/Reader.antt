-- A reader of a section: the parts that it reads and the tests that it makes, in order.
-- A part (document 01's word) is a field or a list that is read: some bytes from a position on. It must end at or before the section's
-- end, or the reader refuses the section as too short, 2. An empty part at p ends at p. The reach is the greatest end among the parts read.
-- Positions are whole numbers and do not wrap. Assumes nothing.
use Rattle.std.specs.Prelude.{ℕ, ◌+◌, ◌*◌, max, Bool, true, false, List, [], ◌∷◌, leb, length, take, drop}
use Rattle.util.specs.View.{little, view}

-- `part p n rest`: the n bytes at p are read, and `rest` goes on with them. A reader sees nothing of the section but its parts.
pub data Reader (A : Type 0) : Type 0 where
  done : A → Reader A
  refuse : ℕ → Reader A
  part : ℕ → ℕ → (List ℕ → Reader A) → Reader A

-- accepted with its reach and a value, or refused by number
pub data Outcome (A : Type 0) : Type 0 where
  accepted : ℕ → A → Outcome A
  refused : ℕ → Outcome A

module _ {A : Type 0} where
  abbrev pub pick : Bool → Outcome A → Outcome A
  pick true o = o
  pick false o = refused 2

  -- o, where a part that ends at e has room in n bytes; else too short
  unfoldable pub ends : ℕ → ℕ → Outcome A → Outcome A
  ends e n o = pick (leb e n) o

  -- what a reader gives on a section, after parts that reach as far as m
  unfoldable pub run : Reader A → List ℕ → ℕ → Outcome A
  run (done a) s m = accepted m a
  run (refuse n) s m = refused n
  run (part p n rest) s m =
      let o = run (rest (take n (drop p s))) s (max m (p + n)) in
      ends (p + n) (length s) o

-- ---- one reader after the other

module _ {A B : Type 0} where
  unfoldable pub bind : Reader A → (A → Reader B) → Reader B
  bind (done a) f = f a
  bind (refuse n) f = refuse n
  bind (part p n rest) f = part p n (λ bs. bind (rest bs) f)

infixl 20 ◌>>=◌
abbrev pub ◌>>=◌ : {A B : Type 0} → Reader A → (A → Reader B) → Reader B
r >>= f = bind r f

infixl 20 ◌>>◌
abbrev pub ◌>>◌ : {A B : Type 0} → Reader A → Reader B → Reader B
r >> q = bind r (λ _. q)

module _ {A B : Type 0} where
  -- a reader for each element in order, one whole before the next
  unfoldable pub each : (A → Reader B) → List A → Reader (List B)
  each f [] = done []
  each f (x ∷ xs) = bind (f x) (λ y. bind (each f xs) (λ ys. done (y ∷ ys)))

-- ---- the steps that readers are made of

-- n bytes at p
abbrev pub bytes : ℕ → ℕ → Reader (List ℕ)
bytes p n = part p n done

-- the word of n bytes at p
abbrev pub word : ℕ → ℕ → Reader ℕ
word p n = part p n (λ bs. done (little bs))

-- the list at p of n items of `size` bytes: one part
abbrev pub list : {A : Type 0} → ℕ → ℕ → (List ℕ → A) → ℕ → Reader (List A)
list p size read n = part p (size * n) (λ bs. done (view size read n bs))

-- a test: refused by number unless it holds
unfoldable pub unless : Bool → ℕ → Reader (Unit {0})
unless true n = done tt
unless false n = refuse n

-- ---- an answer that reads nothing more

-- what is said of a value that has been read: an answer, or a refusal
pub data Verdict (A : Type 0) : Type 0 where
  answered : A → Verdict A
  denied : ℕ → Verdict A

module _ {A : Type 0} where
  -- v where the test holds, else a refusal by number
  abbrev pub given : Bool → ℕ → Verdict A → Verdict A
  given true n v = v
  given false n v = denied n

  abbrev pub tell : Verdict A → Reader A
  tell (answered a) = done a
  tell (denied n) = refuse n

  -- what a call answers, without its reach
  abbrev pub told : Outcome A → Verdict A
  told (accepted m a) = answered a
  told (refused n) = denied n

  -- its number: 0 where it accepts
  abbrev pub number : Verdict A → ℕ
  number (answered a) = 0
  number (denied n) = n

module _ {A B : Type 0} where
  -- what is said of an answer; a refusal stays
  abbrev pub and_then : Verdict A → (A → Verdict B) → Verdict B
  and_then (answered a) f = f a
  and_then (denied n) f = denied n
