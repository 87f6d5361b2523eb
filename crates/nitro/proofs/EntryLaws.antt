-- An entry opened and checked. Assumes nothing.
use Prim.Native.Nat.{ℕ, ◌+◌, ◌-◌, ◌*◌, max, ◌≤◌, ◌<◌}
use mathlib.Core.List.{List, [], ◌∷◌}
use mathlib.Core.Logic.{⊎_elim}
use mathlib.Core.Path.{◌≡◌, refl, sym, ap, subst, ◌∙◌}
use native.Mathlib.Omega.{arith}
use lib.ListN.{length, take, drop, length-drop}
use lib.Seq.{take_all}
use native.Mathlib.Nat.{le_of_eq}
use Rattle.std.specs.Prelude.{Result, Ok}
use Rattle.std.specs.Result.{IsErrAnd}
use Rattle.util.specs.declared.refusal.Refusal.{Refusal}
use Rattle.util.specs.RefusalCode.{number_of}
use Rattle.util.specs.ReaderCode.{IsRead}
use Rattle.util.proofs.TryLaws.{passed_on}
use Rattle.util.specs.Reader.{done, Outcome, accepted, refused, run, bind, answered, denied}
use Rattle.util.proofs.ReadsLaws.{goes_on, stops}
use Rattle.util.proofs.Cut.{short}
use Rattle.nitro.specs.declared.container.Kind.{Kind as CodeKind}
use Rattle.nitro.specs.declared.container.Kind.TheVariants.{Jnt, Srt, Pat}
use Rattle.nitro.specs.declared.container.EntryAt.{EntryAt}
use Rattle.nitro.specs.declared.entry.Held.{Held}
use Rattle.animation.specs.Animation.{animation}
use Rattle.material_animation.specs.MaterialAnimation.{material_animation}
use Rattle.info_block.specs.declared.InfoBlock.{InfoBlock}
use Rattle.info_block.specs.InfoBlockCode.{InsideBlock}
use Rattle.info_block.specs.Name.{Name}
use Rattle.pattern.specs.Pattern.{pattern}
use Rattle.nitro.specs.Container.{Kind, jnt, srt, pat, all_kinds, kind_of, stamped, value, entry, EntryRecord, record_of, entry_of}
use Rattle.nitro.specs.ContainerCode.{kind_means, entry_from, EntryReads}
use Rattle.nitro.specs.EntryCode.{HeldIs, OpenReads}
use Rattle.nitro.proofs.ContainerLaws.{taken, own, stamp_of_lem, stamp_taken, stamp_refused, stamp_none}

-- an entry that no byte is left of
pub nothing_left : (k : Kind) (s : List ℕ) → length s < 1 → run (value k) s 0 ≡ refused 2
unfolding run bind animation material_animation pattern
nothing_left jnt s h = short _ _ _ (omega arith)
nothing_left srt s h = short _ _ _ (omega arith)
nothing_left pat s h = short _ _ _ (omega arith)

pub past_end : (k : Kind) (s : List ℕ) (off : ℕ) → length s < off → run (value k) (drop off s) 0 ≡ refused 2
past_end k s off h = nothing_left k (drop off s) (simp length-drop (omega arith))

-- a slice from an offset onward, as code lends it
pub onward : (off : ℕ) (s : List ℕ) → take (length s - off) (drop off s) ≡ drop off s
onward off s = take_all (length s - off) (drop off s) (le_of_eq (length-drop off s))

-- what is found of a slice that is lent from an offset onward, once its variant is known
pub lent : {R : Type 0} (P : List ℕ → R → Type 0) (s : List ℕ) (off : ℕ) (r x : R) → P (take (length s - off) (drop off s)) r → r ≡ x → P (drop off s) x
lent P s off r x h q = subst (P (drop off s)) q (subst (λ (l : List ℕ). P l r) (onward off s) h)

-- the names of an entry's info block stand in the section
pub names_end : (s : List ℕ) (off p size : ℕ) (b : InfoBlock) → off ≤ length s → InsideBlock (drop off s) p size b → off + (b.names + 16 * b.count) ≤ length s
names_end s off p size b h w =
    let n = w.names_end in
    let i = w.inside in
    omega (arith, length-drop off s)

-- what stands from an offset on ends with the section
pub onward_end : (s : List ℕ) (off : ℕ) → off ≤ length s → off + length (drop off s) ≡ length s
onward_end s off h = let l = length-drop off s in omega arith

-- ---- the check

module _ (k : Kind) (s : List ℕ) (i : ℕ) (e : EntryAt) (w : EntryReads s i (Ok e)) where
  abbrev checked : Outcome EntryRecord
  checked = run (bind (entry k i) (λ x. done (record_of k x))) s 4

  pub held_refused : (n : ℕ) → run (value k) (drop e.offset s) 0 ≡ refused n → refused n ≡ checked
  held_refused n q = sym (stops _ _ _ _ n ((w k).reads ∙ ap (entry_from k s e) q))

  pub held_whole : (h : Held) → HeldIs k (drop e.offset s) h → (name : Name) (reach : ℕ) → name ≡ take 16 (drop e.name s) → reach ≡ max e.end (e.offset + h.reach)
      → accepted reach (record { name = name; frames = h.frames; count = h.count; samples = h.samples }) ≡ checked
  unfolding run
  held_whole h v name reach p q =
      sym (goes_on _ _ _ _ _ _ ((w k).reads ∙ ap (entry_from k s e) v.reads)
      ∙ (λ j. accepted (sym q j) (record { name = sym p j; frames = v.frames j; count = v.count j; samples = v.samples j })))

-- ---- kinds

code_kind : Kind → CodeKind
code_kind jnt = Jnt
code_kind srt = Srt
code_kind pat = Pat

round : (a : CodeKind) → code_kind (kind_means a) ≡ a
unfolding code_kind
round Jnt = refl
round Srt = refl
round Pat = refl

kinds_differ : (a b : CodeKind) → (a ≡ b → ⊥) → kind_means a ≡ kind_means b → ⊥
kinds_differ a b d q = d (sym (round a) ∙ ap code_kind q ∙ round b)

-- ---- an entry of the call's own kind

module _ (s : List ℕ) (i : ℕ) where
  -- the stamp is refused for every kind as for all: under four bytes, or of no kind
  pub open_unstamped : (k : Kind) (n : ℕ) → run (stamped all_kinds) s 0 ≡ refused n → run (entry_of k i) s 0 ≡ refused n
  unfolding entry_of
  open_unstamped k n e = stops _ _ _ _ n (stamp_none s n e k)

  module _ (a b : CodeKind) (e : run (stamped all_kinds) s 0 ≡ accepted 4 (kind_means a)) where
    pub open_other : (a ≡ b → ⊥) → run (entry_of (kind_means b) i) s 0 ≡ refused 1
    unfolding entry_of
    open_other d =
        let w = stamp_of_lem s 4 (kind_means a) e in
        ⊎_elim
        (λ (x : (kind_means a ≡ kind_means b) × (kind_of (kind_means b ∷ []) (take 4 s) ≡ answered (kind_means b))). absurd (kinds_differ a b d x.0))
        (λ (x : kind_of (kind_means b ∷ []) (take 4 s) ≡ denied 1). stops _ _ _ _ 1 (stamp_refused s w.0 (kind_means b) x))
        (taken (take 4 s) (kind_means a) (kind_means b) w.1)

    pub stamp_same : a ≡ b → run (stamped all_kinds) s 0 ≡ accepted 4 (kind_means b)
    stamp_same d = e ∙ ap (λ (k : CodeKind). accepted 4 (kind_means k)) d

  module _ (k : Kind) (e : run (stamped all_kinds) s 0 ≡ accepted 4 k) where
    pub stamped_room : 4 ≤ length s
    stamped_room = (stamp_of_lem s 4 k e).0

    pub open_run : run (entry_of k i) s 0 ≡ run (entry k i) s 4
    unfolding entry_of
    open_run =
        let w = stamp_of_lem s 4 k e in
        goes_on _ _ _ _ 4 k (stamp_taken s w.0 k (own (take 4 s) k w.1))

    pub open_past : (t : EntryAt) → EntryReads s i (Ok t) → length s < t.offset → run (entry_of k i) s 0 ≡ refused 2
    open_past t w h = open_run ∙ ((w k).reads ∙ ap (entry_from k s t) (past_end k s t.offset h))

    pub open_at : (t : EntryAt) → EntryReads s i (Ok t) → t.offset ≤ length s → OpenReads k s i (Ok t)
    open_at t w h = record { reads = open_run ∙ (w k).reads; holds = h }

-- ---- an entry whose value is refused

pub value_refused : (k : Kind) (s : List ℕ) (i : ℕ) (e : EntryAt) → OpenReads k s i (Ok e) → (n : ℕ) → run (value k) (drop e.offset s) 0 ≡ refused n → run (entry_of k i) s 0 ≡ refused n
value_refused k s i e w n h = w.reads ∙ ap (entry_from k s e) h
