-- A section has one kind at most; an entry is read from its offset onward. Assumes nothing.
use Prim.Native.Nat.{ℕ, ◌+◌, ◌*◌, max, ◌≤◌, ◌<◌}
use mathlib.Core.Bool.{Bool, true, false, cond}
use mathlib.Core.List.{List, [], ◌∷◌}
use mathlib.Core.Logic.{◌⊎◌, inl, inr, ⊎_elim}
use mathlib.Core.Path.{◌≡◌, refl, sym, ap, ◌∙◌}
use native.Mathlib.Omega.{arith}
use borrow.Author.Tests.{le-ltb, lt-ltb, ltb-true}
use lib.Dec.{ltb, lit≤}
use lib.ListN.{length, take, drop, get_or}
use Rattle.std.specs.Prelude.{Ok}
use Rattle.util.specs.View.{little, word_at, same}
use Rattle.util.specs.Reader.{Reader, done, Outcome, accepted, refused, ends, run, bind, unless, Verdict, answered, denied, tell}
use Rattle.util.specs.Place.{within, moved, raised}
use Rattle.util.proofs.All.{each_at}
use Rattle.util.proofs.Calls.{after, run_bind_as, accepted_first}
use Rattle.util.proofs.ReadsLaws.{goes_on, done_is, test_held}
use Rattle.util.proofs.Cut.{le_or_lt, had, had_part, short, max_right}
use Rattle.util.proofs.Place.{run_within, lowered}
use Rattle.util.proofs.ViewLaws.{same_like, view_there}
use Rattle.info_block.specs.declared.InfoBlock.{InfoBlock}
use Rattle.animation.specs.Animation.{animation}
use Rattle.material_animation.specs.MaterialAnimation.{material_animation}
use Rattle.pattern.specs.Pattern.{pattern}
use Rattle.info_block.specs.InfoBlock.{Block, info_block}
use Rattle.info_block.specs.InfoBlockCode.{block_at}
use Rattle.info_block.proofs.InfoBlockLaws.{block_even}
use Rattle.nitro.specs.Container.{Kind, jnt, srt, pat, stamp_of, all_kinds, kind_of, stamped, section, Value, value, Entry, entry_in, entry, entry_of}
use Rattle.nitro.specs.ContainerCode.{HeaderReads, entry_from, EntryReads}

-- equal stamps are of one kind
kind_like : (ks : List Kind) (a b : List ℕ) → same 4 a b ≡ true → kind_of ks a ≡ kind_of ks b
unfolding kind_of
kind_like [] a b e = refl
kind_like (k ∷ ks) a b e = rw (same_like 4 a b (stamp_of k) e, kind_like ks a b e) refl

pub own_stamp : (k : Kind) → kind_of all_kinds (stamp_of k) ≡ answered k
unfolding kind_of same
own_stamp jnt = refl
own_stamp srt = refl
own_stamp pat = refl

-- a stamp that is of the kind k for a call that takes all kinds is k's for a call that takes k alone, and none for a call that takes
-- another
pub taken : (stamp : List ℕ) (k k' : Kind) → kind_of all_kinds stamp ≡ answered k → ((k ≡ k') × (kind_of (k' ∷ []) stamp ≡ answered k')) ⊎ (kind_of (k' ∷ []) stamp ≡ denied 1)
unfolding kind_of
taken stamp k k' e = go (same 4 stamp (stamp_of k')) refl
  where
    one : (b : Bool) → b ≡ true → ◌≡◌ {A = Verdict Kind} (cond b (answered k') (denied 1)) (answered k')
    one b q = rw q refl

    other : (b : Bool) → b ≡ false → ◌≡◌ {A = Verdict Kind} (cond b (answered k') (denied 1)) (denied 1)
    other b q = rw q refl

    go : (b : Bool) → same 4 stamp (stamp_of k') ≡ b → ((k ≡ k') × (kind_of (k' ∷ []) stamp ≡ answered k')) ⊎ (kind_of (k' ∷ []) stamp ≡ denied 1)
    go true q =
        let w : answered k ≡ answered k' = sym e ∙ (kind_like all_kinds stamp (stamp_of k') q ∙ own_stamp k') in
        inl (cc, one (same 4 stamp (stamp_of k')) q)
    go false q = inr (other (same 4 stamp (stamp_of k')) q)

-- a stamp that is of the kind k for a call that takes all kinds is so for a call that takes k alone
pub own : (stamp : List ℕ) (k : Kind) → kind_of all_kinds stamp ≡ answered k → kind_of (k ∷ []) stamp ≡ answered k
unfolding kind_of
own stamp k e = go (same 4 stamp (stamp_of jnt)) (same 4 stamp (stamp_of srt)) (same 4 stamp (stamp_of pat)) k refl refl refl e
  where
    no : {A : Type 0} → ◌≡◌ {A = ℕ} 0 1 → A
    no z = absurd (omega arith)

    go : (a b c : Bool) (k : Kind) → same 4 stamp (stamp_of jnt) ≡ a → same 4 stamp (stamp_of srt) ≡ b → same 4 stamp (stamp_of pat) ≡ c
        → cond a (answered jnt) (cond b (answered srt) (cond c (answered pat) (denied 1))) ≡ answered k → ◌≡◌ {A = Verdict Kind} (cond (same 4 stamp (stamp_of k)) (answered k) (denied 1)) (answered k)
    go true b c jnt p q r e = rw p refl
    go true b c srt p q r e = no (cc)
    go true b c pat p q r e = no (cc)
    go false true c jnt p q r e = no (cc)
    go false true c srt p q r e = rw q refl
    go false true c pat p q r e = no (cc)
    go false false true jnt p q r e = no (cc)
    go false false true srt p q r e = no (cc)
    go false false true pat p q r e = rw r refl
    go false false false k p q r e = no (cc)

-- a stamp of no kind is of no one kind
pub no_kind : (stamp : List ℕ) (n : ℕ) → kind_of all_kinds stamp ≡ denied n → (k : Kind) → (n ≡ 1) × (kind_of (k ∷ []) stamp ≡ denied 1)
unfolding kind_of
no_kind stamp n e k = go (same 4 stamp (stamp_of jnt)) (same 4 stamp (stamp_of srt)) (same 4 stamp (stamp_of pat)) k refl refl refl e
  where
    no : {A : Type 0} → ◌≡◌ {A = ℕ} 0 1 → A
    no z = absurd (omega arith)

    go : (a b c : Bool) (k : Kind) → same 4 stamp (stamp_of jnt) ≡ a → same 4 stamp (stamp_of srt) ≡ b → same 4 stamp (stamp_of pat) ≡ c
        → cond a (answered jnt) (cond b (answered srt) (cond c (answered pat) (denied 1))) ≡ denied n → (n ≡ 1) × ◌≡◌ {A = Verdict Kind} (cond (same 4 stamp (stamp_of k)) (answered k) (denied 1)) (denied 1)
    go true b c k p q r e = no (cc)
    go false true c k p q r e = no (cc)
    go false false true k p q r e = no (cc)
    go false false false jnt p q r e = (cc, rw p refl)
    go false false false srt p q r e = (cc, rw q refl)
    go false false false pat p q r e = (cc, rw r refl)

-- ---- the stamp as a reader

told : {A : Type 0} (v : Verdict A) (s : List ℕ) (m j : ℕ) (a : A) → run (tell v) s m ≡ accepted j a → (v ≡ answered a) × (m ≡ j)
unfolding run
told (answered b) s m j a e = (cc, cc)
told (denied n) s m j a e = let z : ◌≡◌ {A = ℕ} 0 1 = cc in absurd (omega arith)

pub stamp_of_lem : (s : List ℕ) (j : ℕ) (k : Kind) → run (stamped all_kinds) s 0 ≡ accepted j k → (4 ≤ length s) × (kind_of all_kinds (take 4 s) ≡ answered k) × (4 ≡ j)
unfolding run stamped
stamp_of_lem s j k e =
    let p = had_part 4 (length s) (run (tell (kind_of all_kinds (take 4 s))) s 4) j k e in
    let q = told (kind_of all_kinds (take 4 s)) s 4 j k p.1 in
    (p.0, q.0, q.1)

module _ (s : List ℕ) (h : 4 ≤ length s) (k : Kind) where
  pub stamp_taken : kind_of (k ∷ []) (take 4 s) ≡ answered k → run (stamped (k ∷ [])) s 0 ≡ accepted 4 k
  unfolding stamped run
  stamp_taken q = had _ _ _ _ h (rw q refl)

  pub stamp_refused : kind_of (k ∷ []) (take 4 s) ≡ denied 1 → run (stamped (k ∷ [])) s 0 ≡ refused 1
  unfolding stamped run
  stamp_refused q = had _ _ _ _ h (rw q refl)

-- a stamp that a call for all kinds refuses is refused for each kind
told_no : {A : Type 0} (v : Verdict A) (s : List ℕ) (m n : ℕ) → run (tell v) s m ≡ refused n → v ≡ denied n
unfolding run
told_no (answered b) s m n e = let z : ◌≡◌ {A = ℕ} 0 1 = cc in absurd (omega arith)
told_no (denied k) s m n e = cc

pub stamp_none : (s : List ℕ) (n : ℕ) → run (stamped all_kinds) s 0 ≡ refused n → (k : Kind) → run (stamped (k ∷ [])) s 0 ≡ refused n
unfolding run stamped
stamp_none s n e k = ⊎_elim whole cut (le_or_lt 4 (length s))
  where
    whole : 4 ≤ length s → ends 4 (length s) (run (tell (kind_of (k ∷ []) (take 4 s))) s 4) ≡ refused n
    whole h =
        let v = no_kind (take 4 s) n (told_no (kind_of all_kinds (take 4 s)) s 4 n (sym (had 4 (length s) (run (tell (kind_of all_kinds (take 4 s))) s 4) _ h refl) ∙ e)) k in
        had _ _ _ _ h (rw (v.1, v.0) refl)

    cut : length s < 4 → ends 4 (length s) (run (tell (kind_of (k ∷ []) (take 4 s))) s 4) ≡ refused n
    cut h = short _ _ _ h ∙ (sym (short 4 (length s) (run (tell (kind_of all_kinds (take 4 s))) s 4) h) ∙ e)

-- a section under four bytes has no stamp, for any call
pub stamp_cut : (s : List ℕ) (ks : List Kind) → length s < 4 → run (stamped ks) s 0 ≡ refused 2
unfolding stamped run
stamp_cut s ks h = short _ _ _ h

-- An entry's reader placed at its offset is that reader on what follows the offset, `&s[off..]` in code: its reach counts from the
-- offset, and an offset past the section leaves no byte to read.
pub value_within : (k : Kind) (off : ℕ) (s : List ℕ) (m : ℕ) → run (within off (value k)) s m ≡ raised m (moved off (run (value k) (drop off s) 0))
unfolding animation material_animation pattern bind
value_within jnt off s m = run_within off 0 4 _ s m (lit≤ tt)
value_within srt off s m = run_within off 0 4 _ s m (lit≤ tt)
value_within pat off s m = run_within off 0 4 _ s m (lit≤ tt)

-- what an accepted entry holds was read from its offset onward
pub held_read : (k : Kind) (s : List ℕ) (i m j : ℕ) (e : Entry k) → run (entry k i) s m ≡ accepted j e → (n : ℕ) × (run (value k) (drop e.offset s) 0 ≡ accepted n e.held)
unfolding entry entry_in
held_read k s i m j e h =
    let b = accepted_first section (entry_in k i) s m j e h in
    let off = little (get_or b.1.datums i []) in
    let c = accepted_first (unless (ltb i b.1.count) 9) _ s b.0 j e b.3 in
    let d = accepted_first (within off (value k)) _ s c.0 j e c.3 in
    let q = done_is _ s d.0 j e d.3 in
    let w = lowered c.0 off (run (value k) (drop off s) 0) d.0 d.1 (sym (value_within k off s c.0) ∙ d.2) in
    (w.0, ap (λ (x : Entry k). run (value k) (drop x.offset s) 0) (sym q) ∙ (w.1 ∙ ap (λ (x : Entry k). accepted w.0 x.held) q))

-- the same from the section's start, where the stamp is read first
after_stamp : (k : Kind) (s : List ℕ) (i m : ℕ) (e : Entry k) → run (entry_of k i) s 0 ≡ accepted m e → (j : ℕ) × (run (entry k i) s j ≡ accepted m e)
unfolding entry_of
after_stamp k s i m e h = let w = accepted_first (stamped (k ∷ [])) (λ _. entry k i) s 0 m e h in (w.0, w.3)

pub value_read : (k : Kind) (s : List ℕ) (i m : ℕ) (e : Entry k) → run (entry_of k i) s 0 ≡ accepted m e → (n : ℕ) × (run (value k) (drop e.offset s) 0 ≡ accepted n e.held)
value_read k s i m e h = let w = after_stamp k s i m e h in held_read k s i w.0 m e w.1

-- its name is the one that stands at its index
pub name_read : (k : Kind) (s : List ℕ) (i m j r : ℕ) (e : Entry k) (b : Block) → run section s m ≡ accepted r b → run (entry k i) s m ≡ accepted j e → e.name ≡ get_or b.names i []
unfolding entry entry_in
name_read k s i m j r e b q h =
    let c = accepted_first (unless (ltb i b.count) 9) _ s r j e (sym (goes_on section (entry_in k i) s m r b q) ∙ h) in
    let d = accepted_first _ _ s c.0 j e c.3 in
    ap (λ (x : Entry k). x.name) (sym (done_is _ s d.0 j e d.3))

-- a section has a name for each entry
pub section_counted : (s : List ℕ) (m j : ℕ) (b : Block) → run section s m ≡ accepted j b → length b.names ≡ b.count
unfolding section
section_counted s m j b h = let w = accepted_first _ _ s m j b h in (block_even 8 4 s w.0 j b w.3).names

-- an entry's name has sixteen bytes
pub name_sixteen : (k : Kind) (s : List ℕ) (i m : ℕ) (e : Entry k) → run (entry_of k i) s 0 ≡ accepted m e → length e.name ≡ 16
unfolding entry entry_in section
name_sixteen k s i m e h =
    let a = after_stamp k s i m e h in
    let b = accepted_first section (entry_in k i) s a.0 m e a.1 in
    let w = accepted_first _ _ s a.0 b.0 b.1 b.2 in
    let v = block_even 8 4 s w.0 b.0 b.1 w.3 in
    let c = accepted_first (unless (ltb i b.1.count) 9) _ s b.0 m e b.3 in
    let l = ltb-true i b.1.count (test_held _ 9 s b.0 c.0 c.1 c.2) in
    ap length (name_read k s i a.0 m b.0 e b.1 b.2 a.1) ∙ each_at _ b.1.names [] v.sixteen i (omega (arith, v.names))

-- ---- what the code of container.rt finds

-- the first of the kinds that a stamp has
module _ (s : List ℕ) where
  module _ (h : 4 ≤ length s) (a : Bool) (ea : a ≡ same 4 (take 4 s) (stamp_of jnt)) where
    by_tests : run (stamped all_kinds) s 0 ≡ run (tell (cond (same 4 (take 4 s) (stamp_of jnt)) (answered jnt) (cond (same 4 (take 4 s) (stamp_of srt)) (answered srt) (cond (same 4 (take 4 s) (stamp_of pat)) (answered pat) (denied 1))))) s 4
    unfolding run stamped kind_of
    by_tests = had _ _ _ _ h refl

    pub is_jnt : a ≡ true → run (stamped all_kinds) s 0 ≡ accepted 4 jnt
    unfolding run
    is_jnt q = by_tests ∙ rw (sym ea ∙ q) refl

    module _ (qa : a ≡ false) (b : Bool) (eb : b ≡ same 4 (take 4 s) (stamp_of srt)) where
      pub is_srt : b ≡ true → run (stamped all_kinds) s 0 ≡ accepted 4 srt
      unfolding run
      is_srt q = by_tests ∙ rw (sym ea ∙ qa, sym eb ∙ q) refl

      module _ (qb : b ≡ false) (c : Bool) (ec : c ≡ same 4 (take 4 s) (stamp_of pat)) where
        pub is_pat : c ≡ true → run (stamped all_kinds) s 0 ≡ accepted 4 pat
        unfolding run
        is_pat q = by_tests ∙ rw (sym ea ∙ qa, sym eb ∙ qb, sym ec ∙ q) refl

        pub is_none : c ≡ false → run (stamped all_kinds) s 0 ≡ refused 1
        unfolding run
        is_none q = by_tests ∙ rw (sym ea ∙ qa, sym eb ∙ qb, sym ec ∙ q) refl

-- the section's header, after its stamp
module _ (s : List ℕ) where
  pub size_short : length s < 8 → run section s 4 ≡ refused 2
  unfolding run bind section
  size_short h = short _ _ _ h

  pub header_run : 8 ≤ length s → run section s 4 ≡ run (info_block 8 4) s 8
  unfolding run bind section
  header_run h = had _ _ _ _ h refl

-- an entry of a section whose header is whole
module _ (s : List ℕ) (i : ℕ) (b : InfoBlock) (w : HeaderReads s (Ok b)) where
  block_end : max 8 b.end ≡ b.end
  block_end = let x = w.holds in max_right 8 b.end (omega arith)

  in_block : (k : Kind) → run (entry k i) s 4 ≡ run (entry_in k i (block_at s 4 b)) s b.end
  unfolding entry
  in_block k = goes_on section (entry_in k i) s 4 _ _ w.reads ∙ ap (run (entry_in k i (block_at s 4 b)) s) block_end

  pub no_entry : b.count ≤ i → (k : Kind) → run (entry k i) s 4 ≡ refused 9
  unfolding run bind entry_in unless
  no_entry h k = in_block k ∙ rw (le-ltb i b.count h) refl

  module _ (h : i < b.count) where
    pub name_place : b.names + 16 * i + 16 ≤ length s
    name_place = let x = w.holds in omega arith

    pub datum_place : b.datums + 4 * i + 4 ≤ length s
    datum_place = let x = w.holds in omega arith

    offset_at : little (get_or (block_at s 4 b).datums i []) ≡ word_at 4 s (b.datums + 4 * i)
    offset_at = ap little (view_there 4 (λ bs. bs) b.count i b.datums s [] h)

    name_at_lem : get_or (block_at s 4 b).names i [] ≡ take 16 (drop (b.names + 16 * i) s)
    name_at_lem = view_there 16 (λ bs. bs) b.count i b.names s [] h

    -- the entry at an offset, under a name
    abbrev named_at : (k : Kind) → ℕ → List ℕ → Reader (Entry k)
    named_at k off name = bind (within off (value k)) (λ v. done (record { name = name; offset = off; held = v }))

    found : (off : ℕ) → off ≡ word_at 4 s (b.datums + 4 * i) → (k : Kind) → run (entry_in k i (block_at s 4 b)) s b.end ≡ run (named_at k off (take 16 (drop (b.names + 16 * i) s))) s b.end
    unfolding bind entry_in unless
    found off e k =
        rw (lt-ltb i b.count h)
        (ap (λ (o : ℕ). run (named_at k o (get_or (block_at s 4 b).names i [])) s b.end) (offset_at ∙ sym e) ∙ ap (λ (n : List ℕ). run (named_at k off n) s b.end) name_at_lem)

    by_outcome : (k : Kind) (off : ℕ) (o : Outcome (Value k))
        → after (raised b.end (moved off o)) (λ j v. accepted j (record { name = take 16 (drop (b.names + 16 * i) s); offset = off; held = v }))
        ≡ entry_from k s (record { offset = off; name = b.names + 16 * i; end = b.end }) o
    unfolding after raised moved
    by_outcome k off (accepted m v) = refl
    by_outcome k off (refused n) = refl

    placed : (k : Kind) (off : ℕ) → run (named_at k off (take 16 (drop (b.names + 16 * i) s))) s b.end ≡ entry_from k s (record { offset = off; name = b.names + 16 * i; end = b.end }) (run (value k) (drop off s) 0)
    unfolding run
    placed k off =
        run_bind_as (within off (value k)) (λ v. done (record { name = take 16 (drop (b.names + 16 * i) s); offset = off; held = v })) s b.end _ (value_within k off s b.end)
        ∙ by_outcome k off (run (value k) (drop off s) 0)

    pub entry_stands : (off : ℕ) → off ≡ word_at 4 s (b.datums + 4 * i) → EntryReads s i (Ok (record { offset = off; name = b.names + 16 * i; end = b.end }))
    entry_stands off e k = record { reads = in_block k ∙ (found off e k ∙ placed k off); holds = (name_place, w.holds.inside) }
