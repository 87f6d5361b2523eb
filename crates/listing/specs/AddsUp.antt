-- The totals under a listing are what a caller finds who adds up the answers of the calls. Proved in proofs/AddsUp.antt, for every section that
-- is listed. Assumes nothing.
use Rattle.std.specs.Prelude.{ℕ, ◌+◌, cond, List, ◌++◌, ◌≡◌, eqb}
use Rattle.util.specs.Reader.{number, told}
use Rattle.util.specs.Sums.{sum_to}
use Rattle.calls.specs.Calls.{check, answer}
use Rattle.calls.specs.Samples.{adds, handed_out}
use Rattle.listing.specs.Listing.{total_lines, Header, entry_listing, form_line, listing}

-- of a section whose header is h
pub record AddsUp (s : List ℕ) (h : Header) : Type 0 where
  -- what is printed after accepted=, refused= and samples=
  pub whole : ℕ
  pub damaged : ℕ
  pub samples : ℕ
  pub printed : listing s ≡ form_line ++ (entry_listing s h ++ total_lines whole damaged samples)
  -- the entries whose check answers 0, and all others
  pub answers_0 : whole ≡ sum_to h.block.count (λ i. cond (eqb (number (told (answer (check i) s))) 0) 1 0)
  pub all : whole + damaged ≡ h.block.count
  -- over the entries whose check accepts: the lengths that the record calls hand out for every object, axis, track and channel
  pub added : samples ≡ sum_to h.block.count (λ i. adds (λ e. handed_out s i h.kind e.count) (answer (check i) s))
