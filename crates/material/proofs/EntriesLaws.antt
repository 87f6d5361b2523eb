-- The answer for a material, from what is known of the two entries. Assumes nothing.
use Prim.Native.Nat.{ℕ}
use mathlib.Core.List.{List}
use mathlib.Core.Path.{◌≡◌, refl, sym, ap, ◌∙◌}
use Rattle.util.specs.Reader.{refused, denied, run}
use Rattle.info_block.specs.Name.{Name}
use Rattle.material_animation.specs.declared.MaterialAnimation.{MaterialAnimation}
use Rattle.material_animation.specs.MaterialAnimation.{shift_of}
use Rattle.material_animation.specs.MaterialAnimationCode.{WholeMaterial}
use Rattle.pattern.specs.declared.Pattern.{Pattern}
use Rattle.pattern.specs.Pattern.{keys_of}
use Rattle.pattern.specs.PatternCode.{WholePattern}
use Rattle.nitro.specs.declared.container.EntryAt.{EntryAt}
use Rattle.nitro.specs.Container.{srt, pat, entry_of}
use Rattle.nitro.specs.ContainerCode.{entry_from}
use Rattle.nitro.specs.EntryCode.{Opened}
use Rattle.calls.specs.Material.{joined, material}
use Rattle.calls.proofs.CallsLaws.{by_entries}

module _ (s : List ℕ) (i : ℕ) (p : List ℕ) (j : ℕ) (name : Name) (frame : ℕ) where
  pub srt_refused : (n : ℕ) → run (entry_of srt i) s 0 ≡ refused n → denied n ≡ material i j name frame s p
  srt_refused n e = sym (by_entries i j name frame s p (refused n) _ e refl)

  module _ (e : EntryAt) (a : MaterialAnimation) (w : Opened srt WholeMaterial s i e a) where
    pub pat_refused : (n : ℕ) → run (entry_of pat j) p 0 ≡ refused n → denied n ≡ material i j name frame s p
    pat_refused n f = sym (by_entries i j name frame s p _ (refused n) (w.stands.reads ∙ ap (entry_from srt s e) w.whole.reads) f)

    pub entries_joined : (f : EntryAt) (b : Pattern) (x : Opened pat WholePattern p j f b) → joined frame (shift_of name frame w.whole.held) (keys_of name x.whole.held) ≡ material i j name frame s p
    entries_joined f b x =
        sym (by_entries i j name frame s p _ _ (w.stands.reads ∙ ap (entry_from srt s e) w.whole.reads) (x.stands.reads ∙ ap (entry_from pat p f) x.whole.reads))
