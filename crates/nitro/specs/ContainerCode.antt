-- What the code of container.rt answers: the kind of a section, and where its entries stand. Assumes nothing.
use Rattle.std.specs.Prelude.{ℕ, ◌+◌, max, ◌≤◌, List, length, take, drop, Result}
use Rattle.util.specs.declared.refusal.Refusal.{Refusal}
use Rattle.util.specs.Reader.{Outcome, accepted, refused, run}
use Rattle.util.specs.ReaderCode.{outcome, Reads}
use Rattle.nitro.specs.declared.container.Kind.{Kind as CodeKind}
use Rattle.nitro.specs.declared.container.Kind.TheVariants.{Jnt, Srt, Pat}
use Rattle.nitro.specs.declared.container.EntryAt.{EntryAt}
use Rattle.info_block.specs.declared.InfoBlock.{InfoBlock}
use Rattle.info_block.specs.InfoBlockCode.{block_means, InsideBlock}
use Rattle.nitro.specs.Container.{Kind, jnt, srt, pat, section, Value, value, Entry, entry}

abbrev pub kind_means : CodeKind → Kind
kind_means Jnt = jnt
kind_means Srt = srt
kind_means Pat = pat

abbrev pub stamp_means : Result CodeKind Refusal → Outcome Kind
stamp_means x = outcome (λ k. accepted 4 (kind_means k)) x

-- the section's header, after its stamp
abbrev pub HeaderReads : List ℕ → Result InfoBlock Refusal → Type 0
HeaderReads s x = Reads (block_means s 4 8) (InsideBlock s 8 4) section s 4 x

-- an entry from what it holds, read from its offset onward: positions and reach are related back to the section
abbrev pub entry_from : (k : Kind) → List ℕ → EntryAt → Outcome (Value k) → Outcome (Entry k)
entry_from k s e (accepted m v) = accepted (max e.end (e.offset + m)) (record { name = take 16 (drop e.name s); offset = e.offset; held = v })
entry_from k s e (refused n) = refused n

abbrev pub entry_means : (k : Kind) → List ℕ → EntryAt → Outcome (Entry k)
entry_means k s e = entry_from k s e (run (value k) (drop e.offset s) 0)

abbrev pub EntryInside : List ℕ → EntryAt → Type 0
EntryInside s e = (e.name + 16 ≤ length s) × (e.end ≤ length s)

-- entry i, after the stamp: found alike in a section of any kind
abbrev pub EntryReads : List ℕ → ℕ → Result EntryAt Refusal → Type 0
EntryReads s i x = (k : Kind) → Reads (entry_means k s) (EntryInside s) (entry k i) s 4 x
