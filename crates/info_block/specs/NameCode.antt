-- What the code of name.rt answers. Assumes nothing.
use Rattle.std.specs.Prelude.{◌++◌, Option as CodeOption, Some, None}
use Rattle.std.proofs.Math.Option.{Option, none, some}
use Rattle.util.specs.View.{little_bytes}
use Rattle.info_block.specs.declared.name.Name.{Name as CodeName}
use Rattle.info_block.specs.Name.{Name}

-- the sixteen bytes that two words are
abbrev pub name_means : CodeName → Name
name_means n = little_bytes 8 n.lo ++ little_bytes 8 n.hi

module _ {X A : Type 0} where
  -- what code finds, by what it means, or none
  abbrev pub found : (X → A) → CodeOption X → Option A
  found means (Some x) = some (means x)
  found means None = none
