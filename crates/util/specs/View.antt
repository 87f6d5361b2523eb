-- Bytes as words and as lists of items. Words are little-endian. Assumes nothing.
use Rattle.std.specs.Prelude.{ℕ, zero, suc, ◌+◌, ◌*◌, ◌/◌, ◌%◌, Bool, true, false, cond, List, [], ◌∷◌, eqb, take, drop, get_or}

-- the word that some bytes are, the lowest byte first
unfoldable pub little : List ℕ → ℕ
little [] = 0
little (b ∷ bs) = b + 256 * little bs

-- the n low bytes of a number, the lowest first
unfoldable pub little_bytes : ℕ → ℕ → List ℕ
little_bytes zero x = []
little_bytes (suc n) x = x % 256 ∷ little_bytes n (x / 256)

-- the word of n bytes that stands at p
abbrev pub word_at : ℕ → List ℕ → ℕ → ℕ
word_at n s p = little (take n (drop p s))

module _ {A : Type 0} where
  -- n items of `size` bytes each, read one after the other
  unfoldable pub view : ℕ → (List ℕ → A) → ℕ → List ℕ → List A
  view size read zero bs = []
  view size read (suc n) bs = read (take size bs) ∷ view size read n (drop size bs)

-- whether the first n bytes are equal
unfoldable pub same : ℕ → List ℕ → List ℕ → Bool
same zero a b = true
same (suc n) a b = cond (eqb (get_or a n 0) (get_or b n 0)) (same n a b) false
