-- What the calls on a PAT0 entry answer, from what is known of the entry. Assumes nothing.
use Prim.Native.Nat.{ℕ, ◌+◌, ◌*◌, ◌≤◌, ◌<◌}
use mathlib.Core.List.{List}
use mathlib.Core.Path.{◌≡◌, refl, sym, ap, ◌∙◌}
use native.Mathlib.Nat.{add_assoc}
use native.Mathlib.Omega.{arith}
use borrow.Author.Tests.{lt-ltb, le-ltb}
use lib.ListN.{length, take, drop, length-drop}
use lib.Seq.{drop-drop}
use Rattle.util.specs.View.{little, word_at, view}
use Rattle.util.specs.Reader.{Verdict, answered, denied, told}
use Rattle.util.proofs.ViewLaws.{view-length}
use Rattle.info_block.specs.Name.{Name, name_among}
use Rattle.pattern.specs.declared.ItemList.{ItemList}
use Rattle.pattern.specs.declared.Pattern.{Pattern}
use Rattle.pattern.specs.Pattern.{Key, Names, Track, no_track, key_of, choice}
use Rattle.pattern.specs.PatternCode.{ListedAt, WholePattern}
use Rattle.pattern.proofs.PatternLaws.{track_count_lem, keys_inside, track_of_lem}
use Rattle.nitro.specs.declared.container.EntryAt.{EntryAt}
use Rattle.nitro.specs.Container.{pat}
use Rattle.nitro.specs.EntryCode.{Opened}
use Rattle.std.specs.Prelude.{Result, Ok, Err}
use Rattle.util.specs.declared.refusal.Refusal.{Refusal}
use Rattle.calls.specs.Calls.{Query, PatternQuery, chosen, keys, chosen_of, ask_pattern, of_pattern, pattern_name, texture_names, palette_names, ask, on, answer}
use Rattle.calls.specs.AnswersCode.{list_answer_means}
use Rattle.pat.specs.PatCode.{KeysAt, KeysAre}
use Rattle.calls.proofs.CallsLaws.{asked, some_chosen}

-- a word of what stands from an offset onward
word_onward : (n off q : ℕ) (s : List ℕ) → word_at n (drop off s) q ≡ word_at n s (off + q)
word_onward n off q s = ap (λ (l : List ℕ). little (take n l)) (drop-drop q off s)

-- a track's keys, by the answer's case
pub keys_listed : (s : List ℕ) (i t : ℕ) (r : Result ItemList Refusal) → KeysAre s i t r → list_answer_means r ≡ told (answer (on pat i (of_pattern t keys)) s)
keys_listed s i t (Ok l) k = sym k.listed
keys_listed s i t (Err e) k = sym (k keys)

-- ---- the key that holds at a frame

pub chosen_none : (n : ℕ) (bs : List ℕ) (frame : ℕ) → n ≡ 0 → chosen_of (view 4 key_of n bs) frame ≡ denied 10
unfolding chosen_of view
chosen_none n bs frame e = rw e refl

pub chosen_some : (n : ℕ) (bs : List ℕ) (frame : ℕ) (k : Key) → (n ≡ 0 → ⊥) → ((default : Key) → k ≡ choice (view 4 key_of n bs) default frame)
    → chosen_of (view 4 key_of n bs) frame ≡ answered (record { texture = k.texture; palette = k.palette })
chosen_some n bs frame k h e = some_chosen (view 4 key_of n bs) frame k (rw (view-length 4 key_of n bs) (omega arith)) e

-- ---- an entry that is opened

module _ (s : List ℕ) (i : ℕ) (e : EntryAt) (a : Pattern) (w : Opened pat WholePattern s i e a) where
  abbrev here : List ℕ
  here = drop e.offset s

  abbrev tracks : List Track
  tracks = w.whole.held.tracks

  said : (q : Query pat) → told (answer (on pat i q) s) ≡ ask q (record { name = take 16 (drop e.name s); offset = e.offset; held = w.whole.held })
  said q = asked pat s i q e w.stands a.reach w.whole.held w.whole.reads

  -- the name lists
  pub textures_of : answered (record { place = e.offset + a.textures.place; length = a.textures.count }) ≡ told (answer (on pat i texture_names) s)
  unfolding ask
  textures_of = sym (said texture_names ∙ ap (λ (n : Names). answered (record { place = e.offset + n.place; length = n.count })) w.whole.textures)

  pub palettes_of : answered (record { place = e.offset + a.palettes.place; length = a.palettes.count }) ≡ told (answer (on pat i palette_names) s)
  unfolding ask
  palettes_of = sym (said palette_names ∙ ap (λ (n : Names). answered (record { place = e.offset + n.place; length = n.count })) w.whole.palettes)

  -- the names of the tracks
  pub name_of : (t : ℕ) (v : Verdict Name) → v ≡ name_among (view 16 (λ bs. bs) a.block.count (drop a.block.names here)) t → v ≡ told (answer (on pat i (pattern_name t)) s)
  unfolding ask
  name_of t v q = q ∙ sym (said (pattern_name t) ∙ ap (λ (l : List Name). name_among l t) w.whole.names)

  -- a track past the list
  pub track_past : (t : ℕ) → a.block.count ≤ t → (q : PatternQuery) → told (answer (on pat i (of_pattern t q)) s) ≡ denied 9
  unfolding ask
  track_past t h q = let l : length tracks ≤ t = rw (track_count_lem here a w.whole) h in said (of_pattern t q) ∙ rw (le-ltb t (length tracks) l) refl

  module _ (t : ℕ) (h : t < a.block.count) where
    abbrev datum : ℕ
    datum = a.block.datums + 8 * t

    -- the keys that the datum says
    module _ (l : ItemList) (k : ListedAt s (e.offset + datum + 6) 4 (e.offset + datum) l) where
      there : ListedAt here (datum + 6) 4 datum l
      there =
          record {
            place = k.place ∙ (ap (word_at 2 s) (add_assoc e.offset datum 6) ∙ sym (word_onward 2 e.offset (datum + 6) s));
            count = k.count ∙ sym (word_onward 4 e.offset datum s);
            near = k.near;
            few = k.few;
          }

      pub keys_at_lem : KeysAt s i t (record { place = e.offset + l.place; count = l.count })
      unfolding ask ask_pattern
      keys_at_lem =
          let m : t < length tracks = rw (track_count_lem here a w.whole) h in
          let o = w.stands.holds in
          let j = keys_inside here a w.whole t h l there no_track in
          record {
            inside = omega (arith, length-drop e.offset s);
            listed =
                said (of_pattern t keys)
                ∙ rw (lt-ltb t (length tracks) m, track_of_lem here a w.whole t h l there no_track)
                (ap (λ (x : ℕ). answered (record { place = e.offset + l.place; length = x })) (view-length 4 key_of l.count (drop l.place here)));
            choices = λ f. said (of_pattern t (chosen f)) ∙ rw (lt-ltb t (length tracks) m, track_of_lem here a w.whole t h l there no_track, drop-drop l.place e.offset s) refl;
          }
