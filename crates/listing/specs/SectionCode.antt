-- The lines of a section, from what the code finds in it; its totals as the code adds them up. Assumes nothing.
use Rattle.std.specs.Prelude.{ℕ, ◌+◌, ◌<◌, List, Result}
use Rattle.util.specs.Reader.{Reader, done, bind, Outcome, accepted}
use Rattle.info_block.specs.declared.InfoBlock.{InfoBlock}
use Rattle.info_block.specs.InfoBlockCode.{block_at}
use Rattle.nitro.specs.declared.entry.Checked.{Checked}
use Rattle.util.specs.declared.refusal.Refusal.{Refusal}
use Rattle.nitro.specs.Container.{Kind, section, EntryRecord}
use Rattle.nitro.specs.EntryCode.{check_means}
use Rattle.calls.specs.Samples.{adds}
use Rattle.listing.specs.declared.Totals.{Totals}
use Rattle.listing.specs.Listing.{Header, refusals}

-- a section whose info block is whole
abbrev pub block_outcome : List ℕ → Kind → InfoBlock → Outcome Header
block_outcome s k b = accepted b.end (record { kind = k; block = block_at s 4 b })

-- the header of a section, after its stamp
abbrev pub header_from : Kind → Reader Header
header_from k = bind section (λ b. done (record { kind = k; block = b }))

-- ---- the totals

-- with what one more check adds to each
abbrev pub totals_with : Totals → Outcome EntryRecord → Totals
totals_with t o = record { accepted = t.accepted + adds (λ _. 1) o; refused = t.refused + refusals o; samples = t.samples + adds (λ e. e.samples) o }

-- neither sum wraps
abbrev pub FewTotals : Totals → Result Checked Refusal → Type 0
FewTotals t found = (t.accepted < 256) × (t.refused < 256) × (t.samples + adds (λ e. e.samples) (check_means found) < 18446744073709551616)
