-- The answer for a material is what the uv matrix and the choice of the found tracks are. Assumes nothing.
use Prim.Native.Nat.{ℕ, ◌<◌}
use mathlib.Core.List.{List, []}
use mathlib.Core.Option.{Option, none, some, map}
use mathlib.Core.Path.{◌≡◌, refl, sym, ◌∙◌}
use borrow.Author.Tests.{lt-ltb}
use lib.ListN.{length, get_or, drop}
use Rattle.util.specs.Reader.{accepted, refused, run, answered}
use Rattle.util.proofs.Calls.{accepted_first}
use Rattle.info_block.specs.Name.{Name, earliest, Named, Lowest}
use Rattle.info_block.proofs.EarliestLaws.{earliest_name}
use Rattle.material_animation.specs.MaterialAnimation.{shift_at, shift_of, uv_matrix_at}
use Rattle.material_animation.proofs.MaterialLaws as material_laws
use Rattle.pattern.specs.Pattern.{no_track, keys_of}
use Rattle.pattern.proofs.HeldLaws as pattern_laws
use Rattle.nitro.specs.Container.{srt, pat, Entry, entry, entry_of}
use Rattle.nitro.proofs.ContainerLaws.{value_read}
use Rattle.nitro.proofs.EntryLaws.{open_run}
use Rattle.calls.specs.Calls.{of_material, uv_matrix, chosen_of, of_pattern, chosen, ask_material, ask_pattern, ask, reader, answer}
use Rattle.calls.specs.Material.{joined, material}
use Rattle.calls.specs.OneAnswer.{uv_matrix_of, choice_of, OneAnswer, InOrder}
use Rattle.calls.proofs.CallsLaws.{check_stamped, entry_asked, by_entries}
use Rattle.calls.proofs.KindsLaws.{entry_refused}

-- ---- each side

module _ (s : List ℕ) (i m : ℕ) (a : Entry srt) (e : run (entry_of srt i) s 0 ≡ accepted m a) (t : ℕ) (h : t < length a.held.names) (frame : ℕ) where
  uv_found : uv_matrix_of i t frame s ≡ answered (uv_matrix_at (get_or a.held.tracks t []) frame)
  unfolding ask ask_material
  uv_found =
      let w = value_read srt s i m a e in
      let l : t < length a.held.tracks = rw (material_laws.track_for_name (drop a.offset s) 0 w.0 a.held w.1) h in
      entry_asked srt s i (of_material t (uv_matrix frame)) m a e ∙ rw (lt-ltb t (length a.held.tracks) l) refl

module _ (p : List ℕ) (j n : ℕ) (b : Entry pat) (e : run (entry_of pat j) p 0 ≡ accepted n b) (u : ℕ) (h : u < length b.held.names) (frame : ℕ) where
  choice_found : choice_of j u frame p ≡ chosen_of (get_or b.held.tracks u no_track).keys frame
  unfolding ask ask_pattern
  choice_found =
      let w = value_read pat p j n b e in
      let l : u < length b.held.tracks = rw (pattern_laws.track_for_name (drop b.offset p) 0 w.0 b.held w.1) h in
      entry_asked pat p j (of_pattern u (chosen frame)) n b e ∙ rw (lt-ltb u (length b.held.tracks) l) refl

-- ---- both

pub one_answer : (s : List ℕ) (i m : ℕ) (a : Entry srt) (e : run (entry_of srt i) s 0 ≡ accepted m a) (p : List ℕ) (j n : ℕ) (b : Entry pat) (f : run (entry_of pat j) p 0 ≡ accepted n b) (name : Name) (frame : ℕ)
    → OneAnswer s i m a e p j n b f name frame
one_answer s i m a e p j n b f name frame =
    record {
      both = λ t u h g. unfold joined shift_at uv_matrix_at in by (some t) (some u) (there _ t h) (there _ u g) ∙ rw (uv t h, choice u g) refl;
      srt_alone = λ t h g. unfold joined shift_at uv_matrix_at in by (some t) none (there _ t h) (missing _ g) ∙ rw (uv t h) refl;
      pat_alone = λ u h g. unfold joined in by none (some u) (missing _ h) (there _ u g) ∙ rw (choice u g) refl;
      neither = λ h g. unfold joined in by none none (missing _ h) (missing _ g);
      shifted = λ t h. (uv_matrix_at (get_or a.held.tracks t []) frame, uv t h);
    }
  where
    uv : (t : ℕ) → Lowest name a.held.names t → uv_matrix_of i t frame s ≡ answered (uv_matrix_at (get_or a.held.tracks t []) frame)
    uv t h = uv_found s i m a e t h.0.0 frame

    choice : (u : ℕ) → Lowest name b.held.names u → choice_of j u frame p ≡ chosen_of (get_or b.held.tracks u no_track).keys frame
    choice u g = choice_found p j n b f u g.0.0 frame

    -- by the index that is found on each side
    by : (x y : Option ℕ) → earliest name a.held.names ≡ x → earliest name b.held.names ≡ y
        → material i j name frame s p ≡ joined frame (map (λ t. shift_at (get_or a.held.tracks t []) frame) x) (map (λ u. (get_or b.held.tracks u no_track).keys) y)
    by x y h g = by_entries i j name frame s p (accepted m a) (accepted n b) e f ∙ (unfold shift_of keys_of in rw (h, g) refl)

    there : (names : List Name) (t : ℕ) → Lowest name names t → earliest name names ≡ some t
    there names t = (earliest_name.found name names t).1

    missing : (names : List Name) → ((t : ℕ) → Named name names t → ⊥) → earliest name names ≡ none
    missing names = (earliest_name.nothing name names).1

-- ---- which refusal it gives

pub in_order : (s : List ℕ) (i : ℕ) (p : List ℕ) (j : ℕ) (name : Name) (frame : ℕ) → InOrder s i p j name frame
unfolding answer reader
in_order s i p j name frame =
    record {
      srt_first = λ n e. by_entries i j name frame s p (refused n) _ (entry_refused srt s i n e) refl;
      pat_next =
          λ m e stamp c n f.
          let w = accepted_first (entry srt i) _ s 4 m e (sym (check_stamped s i srt stamp) ∙ c) in
          by_entries i j name frame s p (accepted w.0 w.1) (refused n) (open_run s i srt stamp ∙ w.2) (entry_refused pat p j n f);
    }
