-- The player does what a viewer is told of it. Assumes nothing.
use Prim.Native.Nat.{ℕ, suc, ◌+◌, ◌-◌, ◌%◌, min, ◌≤◌, ◌<◌}
use mathlib.Core.List.{List, [], ◌∷◌}
use mathlib.Core.Logic.{⊎_elim}
use mathlib.Core.Option.{some}
use mathlib.Core.Path.{◌≡◌, refl, sym, ap, subst, ◌∙◌}
use native.Mathlib.Nat.{mod-lt, mod-eq_of_lt, suc-mod, mod_self, zero-mod}
use native.Mathlib.Numerals.{add-one}
use native.Mathlib.Omega.{arith}
use Rattle.util.specs.Reader.{Outcome, accepted, refused, answered, denied, told, and_then}
use Rattle.util.proofs.Cut.{le_or_lt}
use Rattle.nitro.specs.Container.{Kind, jnt, srt, pat, EntryRecord}
use Rattle.calls.specs.Kinds.{section_kind}
use Rattle.calls.specs.Calls.{check, answer}
use Rattle.calls.proofs.KindsLaws.{kinds}
use Rattle.player.specs.Player.{Mode, hold, loop, Player, Event, pick, tick, set, next, kept, step, play, shown_of}
use Rattle.std.specs.Prelude.{Ok, Err}
use Rattle.player.specs.PlayerCode.{player_means, GoesOn}
use Rattle.player.specs.Plays.{Refusals, Shown, tick_count, OneMode, frame_after, Frames, InTurn, Follows, nothing, event, Alike}
use Rattle.player.proofs.StepLaws.{no_frames, one_more, at_last_lem, pick_refused, picks, tick_early, picture_early, tick_refused, ticks, picture_refused, pictures}

-- ---- refusals

-- an answer that is made of what a call accepts is refused exactly where the call is
pub refused_alone : {A B : Type 0} (o : Outcome A) (f : A → B) (n : ℕ) → and_then (told o) (λ a. answered (f a)) ≡ denied n → o ≡ refused n
refused_alone (accepted m a) f n e = let z : ◌≡◌ {A = ℕ} 0 1 = cc in absurd (omega arith)
refused_alone (refused k) f n e = let z : k ≡ n = cc in ap refused z

pub refusals : (s : List ℕ) (p : Player) → Refusals s p
refusals s p =
    record {
      pick_refused = λ i n. (λ e. unfold step in refused_alone (answer (check i) s) _ n e, pick_refused s p i n);
      tick_refused = λ i h n. (λ e. unfold step in refused_alone (answer (check i) s) _ n (rw h at e), tick_refused s p i h n);
      tick_early = tick_early s p;
      picture_early = picture_early s p;
      mode_set = λ mode n e. unfold step in let z : ◌≡◌ {A = ℕ} 0 1 = cc in omega arith;
      unmoved = λ e n h. ap (kept p) h;
    }

-- ---- pictures

pub shown : (s : List ℕ) (p : Player) (i : ℕ) (is : p.entry ≡ some i) (index : ℕ) → Shown s p i is index
shown s p i is index =
    record {
      own_call = λ k e. pictures s p i is 4 k e index;
      no_kind = λ n e. (picture_refused s p i is n e index, λ k. none_shown n e k);
    }
  where
    none_shown : (n : ℕ) → section_kind s ≡ refused n → (k : Kind) → shown_of k i p.frame index s ≡ denied n
    none_shown n e jnt = rw ((kinds s).no_kind n e _) refl
    none_shown n e srt = rw ((kinds s).no_kind n e _) refl
    none_shown n e pat = rw ((kinds s).no_kind n e _) refl

-- ---- frames

-- one tick more
one_tick : (mode : Mode) (k n : ℕ) → (n ≡ 0 → ⊥) → next mode n (frame_after mode k n) ≡ frame_after mode (suc k) n
one_tick hold k n any =
    ⊎_elim
    (λ (h : suc (min k (n - 1)) ≤ n - 1). one_more hold n (min k (n - 1)) any (omega arith) ∙ omega arith)
    (λ (h : n - 1 < suc (min k (n - 1))). at_last_lem hold n (min k (n - 1)) any (omega arith) ∙ omega arith)
    (le_or_lt (suc (min k (n - 1))) (n - 1))
one_tick loop k n any =
    let l : k % n < n = mod-lt k (omega arith) in
    ⊎_elim
    (λ (h : suc (k % n) ≤ n - 1). one_more loop n (k % n) any (omega arith) ∙ (add-one (k % n) ∙ (sym (mod-eq_of_lt {n = suc (k % n)} {m = n} (omega arith)) ∙ sym (suc-mod k n))))
    (λ (h : n - 1 < suc (k % n)).
    let e : suc (k % n) ≡ n = omega arith in
    at_last_lem loop n (k % n) any (omega arith) ∙ sym (suc-mod k n ∙ (ap (λ (x : ℕ). x % n) e ∙ mod_self n)))
    (le_or_lt (suc (k % n)) (n - 1))

module _ (s : List ℕ) (i r : ℕ) (e : EntryRecord) (accepts : answer (check i) s ≡ accepted r e) (mode : Mode) (at : ℕ → ℕ) (more : (k : ℕ) → next mode e.frames (at k) ≡ at (suc k)) where
  -- a player that shows frame `at k` shows `at (k + 1)` after a tick: so after any events
  after_events : (p : Player) (k : ℕ) (es : List Event) → p.entry ≡ some i → p.frame ≡ at k → OneMode s mode p.mode es
      → ((play s p es).entry ≡ some i) × ((play s p es).frame ≡ at (tick_count es + k))
  unfolding step play
  after_events p k [] h f o = (h, f ∙ ap at (omega arith))
  after_events p k (pick j ∷ es) h f o =
      subst (λ (q : Player). ((play s q es).entry ≡ some i) × ((play s q es).frame ≡ at (tick_count es + k))) (sym (ap (kept p) (pick_refused s p j o.0.0 o.0.1)))
      (after_events p k es h f o.1)
  after_events p k (tick ∷ es) h f o =
      let q : Player = record { entry = some i; frame = next p.mode e.frames p.frame; mode = p.mode } in
      let g : next p.mode e.frames p.frame ≡ at (suc k) = rw (o.0, f) (more k) in
      let w = after_events q (suc k) es refl g o.1 in
      subst (λ (q : Player). ((play s q es).entry ≡ some i) × ((play s q es).frame ≡ at (suc (tick_count es) + k))) (sym (ap (kept p) (ticks s p i h r e accepts)))
      (w.0, w.1 ∙ ap at (omega arith))
  after_events p k (set other ∷ es) h f o = after_events (record { entry = p.entry; frame = p.frame; mode = other }) k es h f o

  -- from the pick on
  after_pick : (p : Player) (es : List Event) → 0 ≡ at 0 → OneMode s mode p.mode es
      → ((play s p (pick i ∷ es)).entry ≡ some i) × ((play s p (pick i ∷ es)).frame ≡ at (tick_count es))
  unfolding play
  after_pick p es z o =
      let w = after_events (record { entry = some i; frame = 0; mode = p.mode }) 0 es refl z o in
      subst (λ (q : Player). ((play s q es).entry ≡ some i) × ((play s q es).frame ≡ at (tick_count es))) (sym (ap (kept p) (picks s p i r e accepts)))
      (w.0, w.1 ∙ ap at (omega arith))

first_frame : (mode : Mode) (n : ℕ) → 0 ≡ frame_after mode 0 n
first_frame hold n = omega arith
first_frame loop n = sym (zero-mod n)

pub frames : (s : List ℕ) (p : Player) (i r : ℕ) (e : EntryRecord) (accepts : answer (check i) s ≡ accepted r e) (mode : Mode) (es : List Event) (one : OneMode s mode p.mode es) → Frames s p i r e accepts mode es one
frames s p i r e accepts mode es one =
    record {
      still_picked = ⊎_elim (λ (z : e.frames ≤ 0). (empty (omega arith)).0) (λ (z : 0 < e.frames). (moving (λ x. omega arith)).0) (le_or_lt e.frames 0);
      after_ticks = λ f. (moving f).1;
      no_frames = λ z. (empty z).1;
    }
  where
    moving : (e.frames ≡ 0 → ⊥) → ((play s p (pick i ∷ es)).entry ≡ some i) × ((play s p (pick i ∷ es)).frame ≡ frame_after mode (tick_count es) e.frames)
    moving f = after_pick s i r e accepts mode (λ k. frame_after mode k e.frames) (λ k. one_tick mode k e.frames f) p es (first_frame mode e.frames) one

    empty : e.frames ≡ 0 → ((play s p (pick i ∷ es)).entry ≡ some i) × ((play s p (pick i ∷ es)).frame ≡ 0)
    empty z = after_pick s i r e accepts mode (λ k. 0) (λ k. no_frames mode e.frames 0 z) p es refl one

-- ---- in turn

pub in_turn : InTurn
unfolding play
in_turn s p [] fs = refl
in_turn s p (e ∷ es) fs = in_turn s (kept p (step s p e)) es fs

follow : {X : Type 0} {means : X → Player} {s : List ℕ} {x z : X} {es : List Event} → Follows means s x es z → means z ≡ play s (means x) es
unfolding play
follow nothing = refl
follow {s} (event {es} h f) = follow f ∙ ap (λ (q : Player). play s q es) h

pub alike : Alike
alike X means s x z es f = follow f

pub goes_on : GoesOn
goes_on s p e (Ok q) h = ap (kept (player_means p)) h
goes_on s p e (Err n) h = ap (kept (player_means p)) h
