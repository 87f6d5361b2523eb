use Rattle.pattern.proofs.PatternLaws.{track_count_lem}
use Rattle.nitro.proofs.entry.PatternEntry.held.Goals as goal

-- `nitro::entry::PatternEntry::held` meets its contract. Assumes nothing.
pub returns : goal.returns
returns c = λ s w. record { held = w.held; reads = w.reads; frames = w.frames; count = track_count_lem s _ w; samples = w.samples; inside = w.inside }
