use Rattle.util.proofs.bits.bit.Goals as goal

-- `util::bits::bit` meets its contract. Assumes nothing.
pub returns : goal.returns
returns c = cc
