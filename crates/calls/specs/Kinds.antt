-- What a section's kind says of the calls. Proved in proofs/KindsLaws.antt for every section, with nothing else assumed.
use Rattle.std.specs.Prelude.{ℕ, ◌<◌, ◌≤◌, List, ◌≡◌, take}
use Rattle.util.specs.Reader.{Outcome, accepted, refused, run}
use Rattle.util.specs.Place.{front}
use Rattle.nitro.specs.Container.{Kind, all_kinds, stamped, EntryRecord}
use Rattle.calls.specs.Calls.{Query, Call, check, on, answer}
use Rattle.calls.specs.OneAnswer.{Refuses}

-- which kind the section is: the stamp alone, read as every call reads it
unfoldable pub section_kind : List ℕ → Outcome Kind
section_kind s = run (stamped all_kinds) s 0

pub record Kinds (s : List ℕ) : Type 0 where
  -- it is told by the first four bytes
  pub told_by : (r : ℕ) (k : Kind) → section_kind s ≡ accepted r k → r ≡ 4
  -- a section of no kind is refused by every call, with the same number
  pub no_kind : (n : ℕ) → section_kind s ≡ refused n → (c : Call) → answer c s ≡ refused n
  -- before a call asks anything of an entry it refuses a section of no kind, one of another kind, and an entry that the check refuses, with its number
  pub refuses : (k : Kind) (i n : ℕ) → Refuses k s i n → (q : Query k) → answer (on k i q) s ≡ refused n
  -- a whole entry, cut before its reach, is too short for every call of the section's kind
  pub short : (k : Kind) → section_kind s ≡ accepted 4 k → (i r : ℕ) (e : EntryRecord) → answer (check i) s ≡ accepted r e → (cut : ℕ) → cut < r → (q : Query k) → answer (on k i q) (take cut s) ≡ refused 2

-- What a cut at k, with t after it, does to the kind, as it does to every call
pub record KindCut (s : List ℕ) (k : ℕ) (t : List ℕ) : Type 0 where
  -- from an accepted entry's reach on the kind is that of the uncut section
  pub entry_kept : (i r : ℕ) (e : EntryRecord) → answer (check i) s ≡ accepted r e → r ≤ k → section_kind (front k s t) ≡ section_kind s
  -- from its own reach on the kind stays, and before it the front is too short
  pub kept : (r : ℕ) (a : Kind) → section_kind s ≡ accepted r a → r ≤ k → section_kind (front k s t) ≡ accepted r a
  pub short : (r : ℕ) (a : Kind) → section_kind s ≡ accepted r a → k < r → section_kind (take k s) ≡ refused 2
  -- what the front refuses with another number is refused so whatever follows
  pub refusal_stays : (n : ℕ) → section_kind (take k s) ≡ refused n → (n ≡ 2 → ⊥) → section_kind (front k s t) ≡ refused n
