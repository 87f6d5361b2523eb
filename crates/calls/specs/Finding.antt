-- What finding answers. Proved in proofs/Finding.antt for every section whose stamp and info block are read. Assumes nothing.
use Rattle.std.specs.Prelude.{ℕ, List, [], ◌↔◌, ◌≡◌, length, get_or}
use Rattle.std.proofs.Math.Option.{none, some}
use Rattle.util.specs.Reader.{accepted, run}
use Rattle.info_block.specs.Name.{Name, Named, Lowest}
use Rattle.info_block.specs.InfoBlock.{Block}
use Rattle.nitro.specs.Container.{Kind, all_kinds, stamped, section, EntryRecord}
use Rattle.calls.specs.Calls.{check, find, answer}

-- s is the section, k its kind, and `block` its info block, which ends at r
pub record Finding (s : List ℕ) (k : Kind) (stamp : run (stamped all_kinds) s 0 ≡ accepted 4 k) (r : ℕ) (block : Block) (read : run section s 4 ≡ accepted r block) : Type 0 where
  -- an index is answered exactly if it is below the count, its entry's name is equal and no lower entry's is
  pub found : (name : Name) (i : ℕ) → (answer (find name) s ≡ accepted r (some i)) ↔ Lowest name block.names i
  -- none is answered exactly if no entry's name is equal
  pub nothing : (name : Name) → (answer (find name) s ≡ accepted r none) ↔ ((i : ℕ) → Named name block.names i → ⊥)
  -- there is a name for each entry, refused ones too; an accepted entry's record has it
  pub counted : length block.names ≡ block.count
  pub checked : (i m : ℕ) (e : EntryRecord) → answer (check i) s ≡ accepted m e → e.name ≡ get_or block.names i []
