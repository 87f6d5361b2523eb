-- A call's answer, from what its steps found. Assumes nothing.
use Prim.Native.Nat.{ℕ, ◌≤◌}
use mathlib.Core.List.{List, [], ◌∷◌}
use mathlib.Core.Path.{◌≡◌, refl, sym, ap, ◌∙◌}
use native.Mathlib.Omega.{arith}
use lib.ListN.{length, take, drop}
use Rattle.util.specs.Reader.{done, Outcome, accepted, refused, run, bind, Verdict, answered, denied, tell, told, and_then}
use Rattle.util.proofs.ReadsLaws.{goes_on, stops}
use Rattle.info_block.specs.Name.{Name, earliest}
use Rattle.info_block.specs.InfoBlock.{Block}
use Rattle.material_animation.specs.MaterialAnimation.{shift_of}
use Rattle.pattern.specs.Pattern.{Key, choice, keys_of}
use Rattle.nitro.specs.declared.container.EntryAt.{EntryAt}
use Rattle.std.specs.Prelude.{Ok}
use Rattle.nitro.specs.Container.{Kind, srt, pat, all_kinds, stamped, section, Value, value, Entry, entry, record_of, entry_of}
use Rattle.nitro.specs.ContainerCode.{entry_from}
use Rattle.nitro.specs.EntryCode.{OpenReads}
use Rattle.calls.specs.Calls.{chosen_of, Query, ask, check, find, on, reader, answer}
use Rattle.calls.specs.Material.{Material, joined, material}

-- ---- calls that take all kinds

module _ (s : List ℕ) (i : ℕ) where
  pub check_unstamped : (n : ℕ) → run (stamped all_kinds) s 0 ≡ refused n → answer (check i) s ≡ refused n
  unfolding answer reader
  check_unstamped n e = stops _ _ _ _ n e

  pub check_stamped : (k : Kind) → run (stamped all_kinds) s 0 ≡ accepted 4 k → answer (check i) s ≡ run (bind (entry k i) (λ x. done (record_of k x))) s 4
  unfolding answer reader
  check_stamped k e = goes_on _ _ _ _ 4 k e

-- ---- calls on an entry

said : {A : Type 0} (v : Verdict A) (s : List ℕ) (m : ℕ) → told (run (tell v) s m) ≡ v
unfolding run
said (answered a) s m = refl
said (denied n) s m = refl

module _ (k : Kind) (s : List ℕ) (i : ℕ) (q : Query k) where
  pub entry_denied : (n : ℕ) → run (entry_of k i) s 0 ≡ refused n → told (answer (on k i q) s) ≡ denied n
  unfolding answer reader
  entry_denied n e = ap told (stops _ _ _ _ n e)

  -- an entry that is read whole
  pub entry_tells : (m : ℕ) (e : Entry k) → run (entry_of k i) s 0 ≡ accepted m e → answer (on k i q) s ≡ run (tell (ask q e)) s m
  unfolding answer reader
  entry_tells m e h = goes_on _ _ _ _ m e h

  pub entry_asked : (m : ℕ) (e : Entry k) → run (entry_of k i) s 0 ≡ accepted m e → told (answer (on k i q) s) ≡ ask q e
  entry_asked m e h = ap told (entry_tells m e h) ∙ said (ask q e) s m

  -- .. that is opened and holds v
  pub asked : (e : EntryAt) → OpenReads k s i (Ok e) → (m : ℕ) (v : Value k) → run (value k) (drop e.offset s) 0 ≡ accepted m v
      → told (answer (on k i q) s) ≡ ask q (record { name = take 16 (drop e.name s); offset = e.offset; held = v })
  asked e w m v h = entry_asked _ _ (w.reads ∙ ap (entry_from k s e) h)

-- ---- finding

module _ (s : List ℕ) (name : Name) where
  pub find_unstamped : (n : ℕ) → run (stamped all_kinds) s 0 ≡ refused n → answer (find name) s ≡ refused n
  unfolding answer reader
  find_unstamped n e = stops _ _ _ _ n e

  module _ (k : Kind) (e : run (stamped all_kinds) s 0 ≡ accepted 4 k) where
    pub find_headless : (n : ℕ) → run section s 4 ≡ refused n → answer (find name) s ≡ refused n
    unfolding answer reader
    find_headless n q = goes_on _ _ _ _ 4 k e ∙ stops _ _ _ _ n q

    pub find_earliest : (m : ℕ) (b : Block) → run section s 4 ≡ accepted m b → answer (find name) s ≡ accepted m (earliest name b.names)
    unfolding answer reader run
    find_earliest m b q = goes_on _ _ _ _ 4 k e ∙ goes_on _ _ _ _ m b q

-- ---- the key that holds at a frame

pub some_chosen : (ks : List Key) (frame : ℕ) (k : Key) → 1 ≤ length ks → ((default : Key) → k ≡ choice ks default frame)
    → chosen_of ks frame ≡ answered (record { texture = k.texture; palette = k.palette })
unfolding chosen_of
some_chosen [] frame k h e = absurd (omega arith)
some_chosen (x ∷ xs) frame k h e = λ j. answered (record { texture = (sym (e x) j).texture; palette = (sym (e x) j).palette })

-- ---- a material, from what is read of each entry

abbrev pub together : Name → ℕ → Verdict (Entry srt) → Verdict (Entry pat) → Verdict Material
together name frame v w = and_then v λ a. and_then w λ b. joined frame (shift_of name frame a.held) (keys_of name b.held)

pub by_entries : (i j : ℕ) (name : Name) (frame : ℕ) (s p : List ℕ) (v : Outcome (Entry srt)) (w : Outcome (Entry pat)) → run (entry_of srt i) s 0 ≡ v → run (entry_of pat j) p 0 ≡ w
    → material i j name frame s p ≡ together name frame (told v) (told w)
unfolding material
by_entries i j name frame s p v w e f = rw (e, f) refl
