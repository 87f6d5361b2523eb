use Rattle.pattern.proofs.PatternLaws.{word_below}
use Rattle.pattern.proofs.index_below.Goals as goal

-- `pattern::index_below` meets its contract. Assumes nothing.
pub returns : goal.returns
returns c = rw c.min.ensures (word_below c.args.word c.args.count c.requires)
