-- What the answers of the calls stand for: document 01's number and values. Assumes nothing.
use Rattle.std.specs.Prelude.{ℕ, Result, Option as CodeOption}
use Rattle.std.proofs.Math.Option.{Option}
use Rattle.util.specs.declared.refusal.Refusal.{Refusal}
use Rattle.util.specs.Reader.{Verdict}
use Rattle.util.specs.ReaderCode.{verdict}
pub use Rattle.info_block.specs.NameCode.{found}
use Rattle.matrix.specs.declared.Mat4.{Mat4}
use Rattle.material_animation.specs.MaterialAnimationCode.{shift_means}
use Rattle.pattern.specs.declared.ItemList.{ItemList}
use Rattle.calls.specs.declared.Choice.{Choice}
use Rattle.calls.specs.declared.Material.{Material as CodeMaterial}
use Rattle.calls.specs.Calls.{Listed, Chosen}
use Rattle.calls.specs.Material.{Material}

-- where a list stands, or the number
abbrev pub list_answer_means : Result ItemList Refusal → Verdict Listed
list_answer_means x = verdict (λ l. record { place = l.place; length = l.count }) x

-- the indexes of a texture and of a palette
abbrev pub choice_means : Choice → Chosen
choice_means c = record { texture = c.texture.0; palette = c.palette.0 }

abbrev pub choice_answer_means : Result Choice Refusal → Verdict Chosen
choice_answer_means x = verdict choice_means x

-- a matrix, or the number
abbrev pub matrix_answer_means : Result Mat4 Refusal → Verdict Mat4
matrix_answer_means x = verdict (λ m. m) x

-- an index, none, or the number
abbrev pub found_means : Result (CodeOption ℕ) Refusal → Verdict (Option ℕ)
found_means x = verdict (found (λ i. i)) x

-- a material
abbrev pub material_means : CodeMaterial → Material
material_means m = record { shift = shift_means m.shift; choice = found choice_means m.choice }

abbrev pub material_answer_means : Result CodeMaterial Refusal → Verdict Material
material_answer_means x = verdict material_means x
