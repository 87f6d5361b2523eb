-- The info block: a list of datums of one size, each with a name. How it is read, and how it is written. Assumes nothing.
use Rattle.std.specs.Prelude.{ℕ, ◌+◌, ◌*◌, eqb}
use mathlib.Core.List.{List, [], ◌∷◌, ◌++◌, flatten}
use Rattle.util.specs.View.{little_bytes}
use Rattle.util.specs.Reader.{Reader, done, ◌>>=◌, ◌>>◌, bytes, word, list, unless}
use Rattle.info_block.specs.Name.{Name}

pub record Block : Type 0 where
  pub count : ℕ
  -- the bytes of each datum
  pub datums : List (List ℕ)
  pub names : List Name

-- the info block at p, with datums of `size` bytes: all is read before the zero byte and then the datum size are tested
unfoldable pub info_block : ℕ → ℕ → Reader Block
info_block p size = do
  zero_byte ← word p 1
  count ← word (p + 1) 1
  word (p + 2) 2
  word (p + 4) 2
  word (p + 6) 2
  word (p + 8) 4
  bytes (p + 12) (4 * count)
  datum_size ← word (p + 12 + 4 * count) 2
  word (p + 12 + 4 * count + 2) 2
  datums ← list (p + 12 + 4 * count + 4) size (λ bs. bs) count
  names ← list (p + 12 + 4 * count + 4 + size * count) 16 (λ bs. bs) count
  unless (eqb zero_byte 0) 3
  unless (eqb datum_size size) 4
  done (record { count = count; datums = datums; names = names })

-- ---- written: the same fields in the same order; what reading passes over is zero

-- the fields before the datums
abbrev pub block_head : ℕ → ℕ → List (List ℕ)
block_head count size =
    little_bytes 1 0
    ∷ little_bytes 1 count
    ∷ little_bytes 2 0
    ∷ little_bytes 2 0
    ∷ little_bytes 2 0
    ∷ little_bytes 4 0
    ∷ little_bytes (4 * count) 0
    ∷ little_bytes 2 size
    ∷ little_bytes 2 0
    ∷ []

-- the bytes of a block with datums of `size` bytes
unfoldable pub block_bytes : ℕ → Block → List ℕ
block_bytes size b = flatten (block_head b.count size ++ (flatten b.datums ∷ flatten b.names ∷ []))
