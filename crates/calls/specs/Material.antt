-- One answer per material: what an SRT0 entry and a PAT0 entry, each of its own section, say of a name at a frame. Assumes nothing.
use Rattle.std.specs.Prelude.{ℕ, List}
use Rattle.std.proofs.Math.Option.{Option, none, some}
use Rattle.util.specs.Reader.{run, Verdict, answered, denied, told, and_then}
use Rattle.matrix.specs.Matrix.{f0}
use Rattle.info_block.specs.Name.{Name}
use Rattle.material_animation.specs.MaterialAnimation.{Shift, shift_of}
use Rattle.pattern.specs.Pattern.{Key, keys_of}
use Rattle.nitro.specs.Container.{srt, pat, entry_of}
use Rattle.calls.specs.Calls.{Chosen, chosen_of}

-- how far the texture is shifted, and the texture and the palette that are chosen, if a pattern chooses them
pub record Material : Type 0 where
  pub shift : Shift
  pub choice : Option Chosen

abbrev pub no_shift : Shift
no_shift = record { u = f0; v = f0 }

-- a shift with what the keys choose; 10 for a track with no keys
abbrev pub choosing : Shift → List Key → ℕ → Verdict Material
choosing shift keys frame = and_then (chosen_of keys frame) (λ c. answered (record { shift = shift; choice = some c }))

-- 14 where neither side has the track; a side without it gives its default
unfoldable pub joined : ℕ → Option Shift → Option (List Key) → Verdict Material
joined frame none none = denied 14
joined frame (some shift) none = answered (record { shift = shift; choice = none })
joined frame none (some keys) = choosing no_shift keys frame
joined frame (some shift) (some keys) = choosing shift keys frame

-- s is the SRT0 section and i its entry, p the PAT0 section and j its entry: the one is read, then the other
unfoldable pub material : (i j : ℕ) → Name → (frame : ℕ) → (s p : List ℕ) → Verdict Material
material i j name frame s p =
    and_then (told (run (entry_of srt i) s 0)) λ a.
    and_then (told (run (entry_of pat j) p 0)) λ b.
    joined frame (shift_of name frame a.held) (keys_of name b.held)
