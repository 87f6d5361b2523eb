-- An info block that was written is read back. Assumes nothing.
use Prim.Native.Nat.{ℕ, ◌+◌, ◌*◌, max, ◌<◌}
use mathlib.Core.List.{List, [], ◌∷◌, ◌++◌, flatten}
use mathlib.Core.Path.{◌≡◌, refl, ap, ◌∙◌}
use native.Mathlib.Omega.{arith}
use lib.Dec.{lit<}
use lib.ListN.{length, length-append}
use Rattle.util.specs.View.{little_bytes, word_at}
use Rattle.util.specs.Reader.{accepted, run}
use Rattle.util.proofs.Fields.{Stands, Row, row, stands_at, stands_word, stands_view, length-flatten}
use Rattle.util.proofs.ViewLaws.{length-little}
use Rattle.info_block.specs.InfoBlock.{Block, info_block, block_head, block_bytes}
use Rattle.info_block.proofs.InfoBlockLaws.{placed, whole, Even}

-- how long the fields before the datums are
pub head_length : (c size : ℕ) → length (flatten (block_head c size)) ≡ 16 + 4 * c
unfolding flatten little_bytes
head_length c size = let z = length-little (4 * c) 0 in simp length-append (omega arith)

module _ (size : ℕ) (b : Block) (even : Even size b) where
  datums_length : length (flatten b.datums) ≡ size * b.count
  datums_length = length-flatten size b.datums even.sized ∙ ap (λ (k : ℕ). size * k) even.datums

  names_length : length (flatten b.names) ≡ 16 * b.count
  names_length = length-flatten 16 b.names even.sixteen ∙ ap (λ (k : ℕ). 16 * k) even.names

  pub block_length : length (block_bytes size b) ≡ 16 + 4 * b.count + size * b.count + 16 * b.count
  unfolding block_bytes flatten little_bytes
  block_length =
      let z = length-little (4 * b.count) 0 in
      let d = datums_length in
      let n = names_length in
      simp length-append (omega arith)

  module _ (s : List ℕ) (p : ℕ) (w : Stands s p (block_bytes size b)) (few : b.count < 256) (small : size < 65536) where
    -- the fields, each where the reader looks for it
    record Found : Type 0 where
      pub zero_byte : word_at 1 s p ≡ 0
      pub count : word_at 1 s (p + 1) ≡ b.count
      pub datum_size : word_at 2 s (p + 12 + 4 * b.count) ≡ size
      pub datums : Stands s (placed p size s 0 b.count).datums (flatten b.datums)
      pub names : Stands s (placed p size s 0 b.count).names (flatten b.names)

    found : Found
    unfolding block_bytes Row little_bytes
    found =
        let f : Row s p (block_head b.count size ++ (flatten b.datums ∷ flatten b.names ∷ [])) = row s p _ w in
        let z = length-little (4 * b.count) 0 in
        let d = datums_length in
        record {
          zero_byte = stands_word s p 1 0 f.0 (lit< tt);
          count = stands_word s (p + 1) 1 b.count f.1.0 few;
          datum_size = stands_word s (p + 12 + 4 * b.count) 2 size (stands_at s (little_bytes 2 size) _ (p + 12 + 4 * b.count) (omega arith) f.1.1.1.1.1.1.1.0) small;
          datums = stands_at s (flatten b.datums) _ (p + 12 + 4 * b.count + 4) (omega arith) f.1.1.1.1.1.1.1.1.1.0;
          names = stands_at s (flatten b.names) _ (p + 12 + 4 * b.count + 4 + size * b.count) (omega arith) f.1.1.1.1.1.1.1.1.1.1.0;
        }

    -- reading it gives the block that was written, and reaches as far as that
    pub block_back : (reach : ℕ) → run (info_block p size) s reach ≡ accepted (max reach (p + 12 + 4 * b.count + 4 + size * b.count + 16 * b.count)) b
    block_back reach =
        let f = found in
        let n = names_length in
        let i = f.names.inside in
        whole p size s reach b.count f.count (omega arith) f.zero_byte f.datum_size
        ∙ rw (stands_view s (placed p size s 0 b.count).datums size b.count b.datums f.datums even.datums even.sized, stands_view s (placed p size s 0 b.count).names 16 b.count b.names f.names even.names even.sixteen)
        refl
