use Rattle.util.proofs.view.put64.Goals as goal

-- `util::view::put64` meets its contract. Assumes nothing.
pub returns : goal.returns
returns c = c.put_word.ensures.1
