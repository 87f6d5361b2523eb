-- What a cut does to every call. Proved in proofs/Demand3.antt for every section, cut and tail, with nothing else assumed.
use Rattle.std.specs.Prelude.{ℕ, ◌≤◌, ◌<◌, List, ◌≡◌, take}
use Rattle.util.specs.Reader.{accepted, refused}
use Rattle.util.specs.Place.{front}
use Rattle.info_block.specs.Name.{Name}
use Rattle.nitro.specs.Container.{EntryRecord}
use Rattle.calls.specs.Calls.{Call, check, find, on, Answer, answer}

-- c is a call on entry i
abbrev pub On : ℕ → Call → Type 0
On i (check j) = i ≡ j
On i (find name) = ⊥
On i (on k j q) = i ≡ j

-- s is the section, k the cut, `take k s` the front, and `front k s t` the front with t after it. What a call writes into a lent
-- slice is a part of its answer.
pub record Demand3 (s : List ℕ) (k : ℕ) (t : List ℕ) : Type 0 where
  -- An accepted entry is accepted from its reach on, with the same reach and record. Before it the front is too short.
  pub entry_kept : (i r : ℕ) (e : EntryRecord) → answer (check i) s ≡ accepted r e → r ≤ k → answer (check i) (front k s t) ≡ accepted r e
  pub entry_short : (i r : ℕ) (e : EntryRecord) → answer (check i) s ≡ accepted r e → k < r → answer (check i) (take k s) ≡ refused 2
  -- From the reach on every call on that entry gives what the uncut section gives, its refusals included; and so does finding.
  pub call_kept : (i r : ℕ) (e : EntryRecord) → answer (check i) s ≡ accepted r e → r ≤ k → (c : Call) → On i c → answer c (front k s t) ≡ answer c s
  pub find_kept : (i r : ℕ) (e : EntryRecord) → answer (check i) s ≡ accepted r e → r ≤ k → (name : Name) → answer (find name) (front k s t) ≡ answer (find name) s
  -- Before it the front is too short for every call on that entry that takes the section's stamp.
  pub call_short : (i r : ℕ) (e : EntryRecord) → answer (check i) s ≡ accepted r e → k < r → (c : Call) → On i c → (answer c s ≡ refused 1 → ⊥) → answer c (take k s) ≡ refused 2
  -- A call that refuses the front with a number other than too short gives that number whatever follows.
  pub refusal_stays : (c : Call) (n : ℕ) → answer c (take k s) ≡ refused n → (n ≡ 2 → ⊥) → answer c (front k s t) ≡ refused n
  -- Each call by itself, finding too: what it accepts, it accepts exactly from its own reach on, with the same answer.
  pub answer_kept : (c : Call) (r : ℕ) (a : Answer c) → answer c s ≡ accepted r a → r ≤ k → answer c (front k s t) ≡ accepted r a
  pub answer_short : (c : Call) (r : ℕ) (a : Answer c) → answer c s ≡ accepted r a → k < r → answer c (take k s) ≡ refused 2
