-- A reader that counts from an entry, placed in the section at the entry's offset. Assumes nothing.
use Rattle.std.specs.Prelude.{ℕ, ◌+◌, max, List, ◌++◌, take}
use Rattle.util.specs.Reader.{Reader, done, refuse, part, Outcome, accepted, refused}

module _ {A : Type 0} where
  -- the same parts, b bytes later
  unfoldable pub within : ℕ → Reader A → Reader A
  within b (done a) = done a
  within b (refuse n) = refuse n
  within b (part p n rest) = part (b + p) n (λ bs. within b (rest bs))

  -- an outcome whose reach counts from b, counted from the section's start
  unfoldable pub moved : ℕ → Outcome A → Outcome A
  moved b (accepted m a) = accepted (b + m) a
  moved b (refused n) = refused n

  -- an outcome after parts that reach as far as m
  unfoldable pub raised : ℕ → Outcome A → Outcome A
  raised m (accepted k a) = accepted (max m k) a
  raised m (refused n) = refused n

-- A cut is a number of bytes, the front is that many of the section's first bytes (document 01's words): here with t after it.
abbrev pub front : ℕ → List ℕ → List ℕ → List ℕ
front k s t = take k s ++ t
