-- What the answer for a material is, by the other calls. Proved in proofs/OneAnswer.antt for every two sections whose entries are accepted, every
-- name and every frame. Assumes nothing.
use Rattle.std.specs.Prelude.{ℕ, List, ◌≡◌}
use Rattle.std.proofs.Math.Option.{none, some}
use Rattle.util.specs.Reader.{accepted, refused, run, Verdict, answered, denied, told, and_then}
use Rattle.matrix.specs.declared.Mat4.{Mat4}
use Rattle.info_block.specs.Name.{Name, Named, Lowest}
use Rattle.material_animation.specs.MaterialAnimation.{Shift}
use Rattle.nitro.specs.Container.{Kind, srt, pat, all_kinds, stamped, Entry, EntryRecord, entry_of}
use Rattle.calls.specs.Calls.{Chosen, of_material, uv_matrix, of_pattern, chosen, check, on, answer}
use Rattle.calls.specs.Material.{no_shift, material}

-- what the calls on a track answer
abbrev pub uv_matrix_of : (i t frame : ℕ) → List ℕ → Verdict Mat4
uv_matrix_of i t frame s = told (answer (on srt i (of_material t (uv_matrix frame))) s)

abbrev pub choice_of : (j t frame : ℕ) → List ℕ → Verdict Chosen
choice_of j t frame p = told (answer (on pat j (of_pattern t (chosen frame))) p)

-- the first two numbers of a matrix's fourth column
abbrev pub fourth_column : Mat4 → Shift
fourth_column m = record { u = m.c3.x; v = m.c3.y }

-- a is entry i of the SRT0 section s, and b is entry j of the PAT0 section p, both read whole
pub record OneAnswer (s : List ℕ) (i m : ℕ) (a : Entry srt) (read_a : run (entry_of srt i) s 0 ≡ accepted m a) (p : List ℕ) (j n : ℕ) (b : Entry pat) (read_b : run (entry_of pat j) p 0 ≡ accepted n b) (name : Name) (frame : ℕ) : Type 0 where
  -- where both have the track: t is the earliest of that name in the one entry, u in the other
  pub both : (t u : ℕ) → Lowest name a.held.names t → Lowest name b.held.names u
      → material i j name frame s p ≡ and_then (uv_matrix_of i t frame s) (λ m. and_then (choice_of j u frame p) (λ c. answered (record { shift = fourth_column m; choice = some c })))
  -- where one of them has it
  pub srt_alone : (t : ℕ) → Lowest name a.held.names t → ((u : ℕ) → Named name b.held.names u → ⊥)
      → material i j name frame s p ≡ and_then (uv_matrix_of i t frame s) (λ m. answered (record { shift = fourth_column m; choice = none }))
  pub pat_alone : (u : ℕ) → ((t : ℕ) → Named name a.held.names t → ⊥) → Lowest name b.held.names u
      → material i j name frame s p ≡ and_then (choice_of j u frame p) (λ c. answered (record { shift = no_shift; choice = some c }))
  -- where neither has it
  pub neither : ((t : ℕ) → Named name a.held.names t → ⊥) → ((u : ℕ) → Named name b.held.names u → ⊥) → material i j name frame s p ≡ denied 14
  -- the uv matrix of a track that is found is not refused
  pub shifted : (t : ℕ) → Lowest name a.held.names t → (m : Mat4) × (uv_matrix_of i t frame s ≡ answered m)

-- ---- which refusal it gives

-- a call that takes the kind k refuses a section, or entry i of it, with n: it has no stamp, or another kind's, or the check refuses the entry
pub data Refuses (k : Kind) (s : List ℕ) (i n : ℕ) : Type 0 where
  unstamped : run (stamped all_kinds) s 0 ≡ refused n → Refuses k s i n
  another : (other : Kind) → run (stamped all_kinds) s 0 ≡ accepted 4 other → (other ≡ k → ⊥) → n ≡ 1 → Refuses k s i n
  checked : run (stamped all_kinds) s 0 ≡ accepted 4 k → answer (check i) s ≡ refused n → Refuses k s i n

-- proved for every two sections, in the same place
pub record InOrder (s : List ℕ) (i : ℕ) (p : List ℕ) (j : ℕ) (name : Name) (frame : ℕ) : Type 0 where
  -- the SRT0 section's refusal comes first, whatever the other section is; then the PAT0 section's
  pub srt_first : (n : ℕ) → Refuses srt s i n → material i j name frame s p ≡ denied n
  pub pat_next : (m : ℕ) (e : EntryRecord) → run (stamped all_kinds) s 0 ≡ accepted 4 srt → answer (check i) s ≡ accepted m e → (n : ℕ) → Refuses pat p j n → material i j name frame s p ≡ denied n
