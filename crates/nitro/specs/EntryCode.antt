-- What the code of entry.rt answers: document 01's number and values for each case. Assumes nothing.
use Rattle.std.specs.Prelude.{ℕ, ◌≤◌, List, ◌≡◌, length, drop, Result, Ok}
use Rattle.util.specs.declared.refusal.Refusal.{Refusal}
use Rattle.util.specs.Reader.{Outcome, accepted, run}
use Rattle.util.specs.ReaderCode.{outcome, Reads, IsRead}
use Rattle.info_block.specs.NameCode.{name_means}
use Rattle.nitro.specs.declared.container.EntryAt.{EntryAt}
use Rattle.nitro.specs.declared.entry.Checked.{Checked}
use Rattle.nitro.specs.declared.entry.Held.{Held}
use Rattle.nitro.specs.Container.{Kind, Value, value, EntryRecord, frame_count, count_of, samples_of, entry_of}
use Rattle.nitro.specs.ContainerCode.{entry_means}

-- the entry check: the number, or the record with the reach
abbrev pub check_means : Result Checked Refusal → Outcome EntryRecord
check_means x = outcome (λ e. accepted e.reach (record { name = name_means e.name; frames = e.frames; count = e.count; samples = e.samples })) x

-- what an entry holds, by its frames, how many objects or tracks it has, and how long its lists are together
pub record HeldIs (k : Kind) (s : List ℕ) (h : Held) : Type 0 where
  pub held : Value k
  pub reads : run (value k) s 0 ≡ accepted h.reach held
  pub frames : frame_count k held ≡ h.frames
  pub count : count_of k held ≡ h.count
  pub samples : samples_of k held ≡ h.samples
  pub inside : h.reach ≤ length s

abbrev pub ValueIs : Kind → List ℕ → Result Held Refusal → Type 0
ValueIs k s x = IsRead (HeldIs k s) (run (value k) s 0) x

-- ---- an entry opened

-- it stands at an offset inside the section
abbrev pub OffsetInside : List ℕ → EntryAt → Type 0
OffsetInside s e = e.offset ≤ length s

abbrev pub OpenReads : Kind → List ℕ → ℕ → Result EntryAt Refusal → Type 0
OpenReads k s i x = Reads (entry_means k s) (OffsetInside s) (entry_of k i) s 0 x

-- an entry that stands in the section and is whole, and what is known of it
pub record Opened {A : Type 0} (k : Kind) (Whole : List ℕ → A → Type 0) (s : List ℕ) (i : ℕ) (e : EntryAt) (a : A) : Type 0 where
  pub stands : OpenReads k s i (Ok e)
  pub whole : Whole (drop e.offset s) a

abbrev pub Opens : {A : Type 0} → (k : Kind) → (List ℕ → A → Type 0) → List ℕ → ℕ → Result (EntryAt × A) Refusal → Type 0
Opens k Whole s i x = IsRead (λ o. Opened k Whole s i o.0 o.1) (run (entry_of k i) s 0) x
