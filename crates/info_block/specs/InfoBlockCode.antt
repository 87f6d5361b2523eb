-- What the code of lib.rt answers: where the lists of an info block stand. Assumes nothing.
use Rattle.std.specs.Prelude.{ℕ, ◌+◌, ◌*◌, max, ◌≤◌, ◌<◌, List, Result, Ok, length, drop}
use Rattle.util.specs.View.{view}
use Rattle.util.specs.declared.refusal.Refusal.{Refusal}
use Rattle.util.specs.Reader.{Outcome, accepted}
use Rattle.util.specs.ReaderCode.{Reads}
use Rattle.info_block.specs.declared.InfoBlock.{InfoBlock}
use Rattle.info_block.specs.InfoBlock.{Block, info_block}

-- the block whose datums and names stand at these positions
abbrev pub block_at : List ℕ → ℕ → InfoBlock → Block
block_at s size b = record { count = b.count; datums = view size (λ bs. bs) b.count (drop b.datums s); names = view 16 (λ bs. bs) b.count (drop b.names s) }

-- .. after parts that reach as far as `reach`
abbrev pub block_means : List ℕ → ℕ → ℕ → InfoBlock → Outcome Block
block_means s size reach b = accepted (max reach b.end) (block_at s size b)

-- the lists stand behind p, one after the other, in the section
pub record InsideBlock (s : List ℕ) (p size : ℕ) (b : InfoBlock) : Type 0 where
  pub few : b.count < 256
  pub behind : p < b.datums
  pub datums_end : b.datums + size * b.count ≤ b.names
  pub names_end : b.names + 16 * b.count ≤ b.end
  pub inside : b.end ≤ length s

abbrev pub BlockReads : List ℕ → ℕ → ℕ → ℕ → Result InfoBlock Refusal → Type 0
BlockReads s p size reach x = Reads (block_means s size reach) (InsideBlock s p size) (info_block p size) s reach x

abbrev pub WholeBlock : List ℕ → ℕ → ℕ → InfoBlock → Type 0
WholeBlock s p size b = BlockReads s p size 0 (Ok b)
