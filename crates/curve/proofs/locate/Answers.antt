use mathlib.Core.Path.{sym}
use native.Mathlib.Nat.{le_trans, le_of_eq, lt_of_le_of_lt}
use Rattle.curve.specs.Curve.{index}
use Rattle.curve.proofs.IndexLaws as ix
use Rattle.curve.proofs.locate.Goals as goal

pub floor-lo-requires : goal.floor-lo-requires
unfolding index
floor-lo-requires c =
    ix.index_under _ _ _ _ c.requires.0 c.requires.1 c.ranges.end.fits c.requires.2 c.requires.3

pub ceil-hi-requires : goal.ceil-hi-requires
unfolding index
ceil-hi-requires c =
    ix.index_under _ _ _ _ c.requires.0 c.requires.1 c.ranges.end.fits c.requires.2 c.requires.3

pub int_to_float-g : goal.int_to_float-g
unfolding index
int_to_float-g c =
    ix.exact (le_trans (le_of_eq c.floor-lo.ensures) (ix.lo_small _ _ _ _ c.requires.0 c.requires.1 c.ranges.end.fits c.requires.2 c.requires.3))

pub returns : goal.returns
unfolding index
returns c = (
  cc,
  le_trans (le_of_eq c.floor-lo.ensures) (le_trans (ix.floor-le-ceil _) (le_of_eq (sym c.ceil-hi.ensures))),
  lt_of_le_of_lt (le_of_eq c.ceil-hi.ensures) (ix.hi_lt _ _ _ _ c.requires.0 c.requires.1 c.ranges.end.fits c.requires.2 c.requires.3),
)
