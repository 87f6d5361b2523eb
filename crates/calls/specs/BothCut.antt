-- What a cut of both sections does to the answer for a material. Proved in proofs/BothCut.antt for every two sections, cuts and tails. Assumes nothing.
use Rattle.std.specs.Prelude.{ℕ, ◌≤◌, ◌<◌, List, ◌≡◌, take}
use Rattle.util.specs.Reader.{accepted, denied}
use Rattle.util.specs.Place.{front}
use Rattle.info_block.specs.Name.{Name}
use Rattle.nitro.specs.Container.{srt, pat, stamp_of, EntryRecord}
use Rattle.calls.specs.Calls.{check, answer}
use Rattle.calls.specs.Material.{material}

-- entry i of a section is accepted, with this reach
abbrev pub Accepted : List ℕ → ℕ → ℕ → Type 0
Accepted s i reach = (e : EntryRecord) × (answer (check i) s ≡ accepted reach e)

-- s is handed in as the SRT0 section, cut at k, with t after the cut; p as the PAT0 section, cut at l, with u after it. i and j are their entries.
pub record BothCut (s : List ℕ) (k : ℕ) (t : List ℕ) (p : List ℕ) (l : ℕ) (u : List ℕ) (i j : ℕ) (name : Name) (frame : ℕ) : Type 0 where
  -- From both entries' reaches on the answer is what the uncut sections give, its refusals included.
  pub kept : (r q : ℕ) → Accepted s i r → Accepted p j q → r ≤ k → q ≤ l → material i j name frame (front k s t) (front l p u) ≡ material i j name frame s p
  -- Before the reach of the SRT0 section's entry the call is too short, whatever is handed in as the other section.
  pub srt_short : (r : ℕ) → Accepted s i r → take 4 s ≡ stamp_of srt → k < r → (other : List ℕ) → material i j name frame (take k s) other ≡ denied 2
  -- From it on, and before the reach of the PAT0 section's entry, it is too short as well.
  pub pat_short : (r q : ℕ) → Accepted s i r → take 4 s ≡ stamp_of srt → r ≤ k → Accepted p j q → take 4 p ≡ stamp_of pat → l < q → material i j name frame (front k s t) (take l p) ≡ denied 2
  -- A call that refuses the fronts with a number other than too short gives that number whatever follows either.
  pub stays : (n : ℕ) → material i j name frame (take k s) (take l p) ≡ denied n → (n ≡ 2 → ⊥) → material i j name frame (front k s t) (front l p u) ≡ denied n
