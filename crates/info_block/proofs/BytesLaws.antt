-- What an info block's reader gives on bytes. Assumes nothing.
use Prim.Native.Nat.{ℕ, ◌+◌, ◌*◌, ◌<◌}
use mathlib.Core.List.{List}
use mathlib.Core.Path.{◌≡◌, subst}
use native.Mathlib.Omega.{arith}
use lib.ListN.{length, drop}
use Rattle.util.specs.View.{view}
use Rattle.util.specs.Reader.{accepted, run}
use Rattle.util.proofs.All.{Bytes, bytes_drop, word_lt, Each, Many, view_many, All, list_all, word_all, all_bind, all_after}
use Rattle.info_block.specs.InfoBlock.{Block, info_block}
use Rattle.info_block.proofs.InfoBlockLaws.{stood, block_is}

-- fewer than 256 datums, and each is bytes
pub datums_all : (p size : ℕ) → All (λ block. (length block.datums < 256) × Each Bytes block.datums) (info_block p size)
unfolding info_block
datums_all p size =
    all_after _ _ _ λ zero_byte.
    all_bind (λ n. n < 256) _ _ _ (word_all (p + 1) 1) λ count l.
    all_after _ _ _ λ _.
    all_after _ _ _ λ _.
    all_after _ _ _ λ _.
    all_after _ _ _ λ _.
    all_after _ _ _ λ _.
    all_after _ _ _ λ datum_size.
    all_after _ _ _ λ _.
    all_bind (Many Bytes count) _ _ _ (list_all Bytes (p + 12 + 4 * count + 4) _ _ (λ _ h. h) _) λ datums h.
    all_after _ _ _ λ names.
    all_after _ _ _ λ _.
    all_after _ _ _ λ _.
    (let q = h.0 in omega arith, h.1)

-- of an accepted block: fewer than 256 of each, and all of them are bytes
pub block_bytes_lem : (p size : ℕ) (s : List ℕ) → Bytes s → (m j : ℕ) (b : Block) → run (info_block p size) s m ≡ accepted j b → (b.count < 256) × Each Bytes b.datums × Each Bytes b.names
block_bytes_lem p size s h m j b e =
    let w = stood p size s in
    let each : (size at : ℕ) → Each Bytes (view size (λ x. x) w.count (drop at s)) = λ size at. (view_many Bytes size (λ x. x) (λ _ k. k) w.count (drop at s) (bytes_drop at s h)).1 in
    subst (λ (x : Block). (x.count < 256) × Each Bytes x.datums × Each Bytes x.names) (block_is p size s m j b e) (word_lt 1 s (p + 1) h, each size w.datums, each 16 w.names)
