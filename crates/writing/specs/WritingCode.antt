-- What the code answers. Assumes nothing.
use Rattle.std.specs.Prelude.{ℕ, List, [], ◌≡◌, length, Result}
use Rattle.util.specs.declared.refusal.Refusal.{Refusal}
use Rattle.util.specs.Reader.{Verdict}
use Rattle.util.specs.ReaderCode.{verdict}
use Rattle.pattern_section.specs.Written.{Lent, lent}
use Rattle.writing.specs.WritePattern.{write_pattern, slice_after}

-- how many bytes were written, or the number
abbrev pub writing_means : Result ℕ Refusal → Verdict ℕ
writing_means x = verdict (λ n. n) x

-- the call's answer, and the slice after it
pub record WritesSection (l : Lent) (before after : List ℕ) (r : Result ℕ Refusal) : Type 0 where
  pub answers : writing_means r ≡ write_pattern l (length before)
  pub slice : after ≡ slice_after l before (write_pattern l (length before))

-- lists as they are lent to a function that is lent no name and no frames
abbrev pub lists : List ℕ → List ℕ → List ℕ → List ℕ → Lent
lists textures palettes tracks keys = lent [] 0 textures palettes tracks keys
