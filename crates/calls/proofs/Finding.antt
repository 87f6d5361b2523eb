-- Finding answers the lowest index of an equal name. Assumes nothing.
use Prim.Native.Nat.{ℕ}
use mathlib.Core.List.{List, []}
use mathlib.Core.Logic.{◌↔◌}
use mathlib.Core.Option.{Option, none, some}
use mathlib.Core.Path.{◌≡◌, sym, ap, ◌∙◌}
use lib.ListN.{get_or}
use Rattle.util.specs.Reader.{done, accepted, run}
use Rattle.util.proofs.Calls.{accepted_first}
use Rattle.util.proofs.ReadsLaws.{done_is, one_value}
use Rattle.info_block.specs.Name.{Name, earliest}
use Rattle.info_block.specs.InfoBlock.{Block}
use Rattle.info_block.proofs.EarliestLaws.{earliest_name}
use Rattle.nitro.specs.Container.{Kind, all_kinds, stamped, section, entry, EntryRecord, record_of}
use Rattle.nitro.proofs.ContainerLaws.{name_read, section_counted}
use Rattle.calls.specs.Calls.{check, find, answer}
use Rattle.calls.specs.Finding.{Finding}
use Rattle.calls.proofs.CallsLaws.{check_stamped, find_earliest}

pub finding : (s : List ℕ) (k : Kind) (stamp : run (stamped all_kinds) s 0 ≡ accepted 4 k) (r : ℕ) (block : Block) (read : run section s 4 ≡ accepted r block) → Finding s k stamp r block read
finding s k stamp r block read =
    record {
      found = λ name i. exactly name (some i) (earliest_name.found name block.names i);
      nothing = λ name. exactly name none (earliest_name.nothing name block.names);
      counted = section_counted s 4 r block read;
      checked = checked;
    }
  where
    -- what says that the earliest is o says that o is answered
    exactly : {A : Type 0} (name : Name) (o : Option ℕ) → (earliest name block.names ≡ o) ↔ A → (answer (find name) s ≡ accepted r o) ↔ A
    exactly name o w =
        let f = find_earliest s name k stamp r block read in
        (λ e. w.0 (one_value f e), λ a. f ∙ ap (accepted r) (w.1 a))

    checked : (i m : ℕ) (e : EntryRecord) → answer (check i) s ≡ accepted m e → e.name ≡ get_or block.names i []
    checked i m e q =
        let w = accepted_first (entry k i) (λ x. done (record_of k x)) s 4 m e (sym (check_stamped s i k stamp) ∙ q) in
        ap (λ (x : EntryRecord). x.name) (sym (done_is _ s w.0 m e w.3)) ∙ name_read k s i 4 w.0 r w.1 block read w.2
