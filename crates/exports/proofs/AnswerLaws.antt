-- The bytes of a matrix, from what the call of crate motion answers. Assumes nothing.
use Prim.Native.Nat.{ℕ, ◌≤◌, ◌<◌}
use mathlib.Core.Bool.{Bool, true, false}
use mathlib.Core.List.{List}
use mathlib.Core.Path.{◌≡◌, refl, sym, ap, ◌∙◌}
use native.Mathlib.Omega.{arith}
use borrow.Author.Tests.{le-leb, lt-leb, ltb-true}
use lib.Dec.{ltb, leb}
use lib.ListN.{length, get_or}
use lib.Seq.{sets}
use Rattle.util.specs.Reader.{Outcome, accepted, refused, run, Verdict, answered, denied, given, tell, told}
use Rattle.util.proofs.All.{Bytes, All, all_run, all_bind, all_after}
use Rattle.util.proofs.Calls.{after, run_bind}
use Rattle.matrix.specs.declared.Mat4.{Mat4}
use Rattle.matrix.specs.Matrix.{bytes_of}
use Rattle.matrix.specs.Finite.{FiniteMat}
use Rattle.animation.specs.Animation.{still_object, matrix_at}
use Rattle.animation.proofs.FiniteLaws.{SizedAnimation, objects_finite}
use Rattle.nitro.specs.Container.{jnt, Entry, entry_of}
use Rattle.nitro.proofs.FiniteLaws.{entry_all}
use Rattle.calls.specs.Calls.{of_object, matrix, matrix_bytes, ask_object, ask, on, reader, answer}

accepted_of : {A : Type 0} (o : Outcome A) (a : A) → answered a ≡ told o → (m : ℕ) × (o ≡ accepted m a)
accepted_of (accepted m b) a e = (m, cc)
accepted_of (refused n) a e = let z : ◌≡◌ {A = ℕ} 0 1 = cc in absurd (omega arith)

-- what becomes of a matrix that a call answers, if there is room for it
abbrev written : Bool → List ℕ → Verdict Mat4 → Verdict (List ℕ)
written room out (answered x) = given room 11 (answered (sets out 0 (bytes_of x)))
written room out (denied n) = denied n

-- every matrix that the call reads is one of numbers
matrix_all : (i o f : ℕ) → All FiniteMat (reader (on jnt i (of_object o (matrix f))))
unfolding reader entry_of ask ask_object
matrix_all i o f =
    all_bind (λ e. SizedAnimation e.held) _ _ _ (all_after _ _ _ λ _. entry_all jnt i) λ e h. go e h (ltb o (length e.held.objects)) refl
  where
    go : (e : Entry jnt) → SizedAnimation e.held → (t : Bool) → ltb o (length e.held.objects) ≡ t
        → All FiniteMat (tell (given t 9 (answered (matrix_at (get_or e.held.objects o still_object) f))))
    go e h true k = objects_finite e.held h o (ltb-true o (length e.held.objects) k) _ f
    go e h false k = tt

module _ (s : List ℕ) (i o f : ℕ) where
  abbrev whole : Verdict Mat4
  whole = told (answer (on jnt i (of_object o (matrix f))) s)

  -- no entry of an answered matrix is a NaN or an infinity
  pub answer_finite : Bytes s → (x : Mat4) → answered x ≡ whole → FiniteMat x
  unfolding answer
  answer_finite b x e =
      let w = accepted_of (answer (on jnt i (of_object o (matrix f))) s) x e in
      all_run FiniteMat (reader (on jnt i (of_object o (matrix f)))) (matrix_all i o f) s b 0 w.0 x w.1

  module _ (out : List ℕ) where
    abbrev bytes : Verdict (List ℕ)
    bytes = told (answer (on jnt i (of_object o (matrix_bytes f out))) s)

    of_entry : (x : Outcome (Entry jnt))
        → told (after x (λ m e. run (tell (ask (of_object o (matrix_bytes f out)) e)) s m)) ≡ written (leb 128 (length out)) out (told (after x (λ m e. run (tell (ask (of_object o (matrix f)) e)) s m)))
    unfolding after ask ask_object run
    of_entry (refused n) = refl
    of_entry (accepted m e) = go (ltb o (length e.held.objects)) (leb 128 (length out)) (matrix_at (get_or e.held.objects o still_object) f)
      where
        go : (b room : Bool) (x : Mat4) → told (run (tell (given b 9 (given room 11 (answered (sets out 0 (bytes_of x)))))) s m) ≡ written room out (told (run (tell (given b 9 (answered x))) s m))
        go true true x = refl
        go true false x = refl
        go false room x = refl

    bytes_answer : bytes ≡ written (leb 128 (length out)) out whole
    unfolding answer reader
    bytes_answer =
        ap told (run_bind (entry_of jnt i) (λ e. tell (ask (of_object o (matrix_bytes f out)) e)) s 0)
        ∙ (of_entry (run (entry_of jnt i) s 0)
        ∙ ap (λ (x : Outcome Mat4). written (leb 128 (length out)) out (told x)) (sym (run_bind (entry_of jnt i) (λ e. tell (ask (of_object o (matrix f)) e)) s 0)))

    pub bytes_refused : (n : ℕ) → denied n ≡ whole → bytes ≡ denied n
    bytes_refused n e = bytes_answer ∙ ap (written (leb 128 (length out)) out) (sym e)

    module _ (x : Mat4) (e : answered x ≡ whole) where
      pub bytes_small : length out < 128 → bytes ≡ denied 11
      bytes_small h = bytes_answer ∙ rw (lt-leb 128 (length out) h) (ap (written false out) (sym e))

      pub bytes_whole : 128 ≤ length out → bytes ≡ answered (sets out 0 (bytes_of x))
      bytes_whole h = bytes_answer ∙ rw (le-leb 128 (length out) h) (ap (written true out) (sym e))
