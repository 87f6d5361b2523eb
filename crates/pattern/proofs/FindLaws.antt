-- A name among the tracks of a PAT0 entry. Assumes nothing.
use Prim.Native.Nat.{ℕ, ◌+◌, ◌*◌, ◌≤◌, ◌<◌}
use mathlib.Core.List.{List, []}
use mathlib.Core.Option.{Option, none, some, map}
use mathlib.Core.Path.{◌≡◌, sym, ap, ◌∙◌}
use native.Mathlib.Omega.{arith}
use lib.ListN.{length, drop, get_or}
use Rattle.util.specs.View.{view}
use Rattle.util.proofs.ViewLaws.{view-length}
use Rattle.info_block.specs.Name.{Name, earliest}
use Rattle.info_block.specs.InfoBlockCode.{block_at}
use Rattle.info_block.proofs.NameLaws.{found_below}
use Rattle.pattern.specs.declared.ItemList.{ItemList}
use Rattle.pattern.specs.declared.Pattern.{Pattern as Known}
use Rattle.pattern.specs.declared.PatternKeyframe.{PatternKeyframe}
use Rattle.pattern.specs.Pattern.{Key, Track, no_track, key_of, choice, keys_of}
use Rattle.pattern.specs.PatternCode.{key_means, ListedAt, WholePattern, Holds}
use Rattle.pattern.proofs.PatternLaws.{datum_inside, keys_inside, track_of_lem}

module _ (s : List ℕ) (a : Known) (w : WholePattern s a) (name : Name) where
  -- by the index that is found among the names where the code has them
  by_index : (m : Option ℕ) → m ≡ earliest name (block_at s 8 a.block).names → keys_of name w.held ≡ map (λ t. (get_or w.held.tracks t no_track).keys) m
  unfolding keys_of
  by_index m e = ap (map (λ t. (get_or w.held.tracks t no_track).keys)) (ap (earliest name) w.names ∙ sym e)

  pub keys_nothing : none ≡ earliest name (block_at s 8 a.block).names → keys_of name w.held ≡ none
  keys_nothing e = by_index none e

  module _ (t : ℕ) (e : some t ≡ earliest name (block_at s 8 a.block).names) where
    below : t < a.block.count
    below = found_below s a.block.names a.block.count name t e

    abbrev datum : ℕ
    datum = a.block.datums + 8 * t

    pub found_inside : datum + 8 ≤ length s
    found_inside = datum_inside s a w t below

    -- the keys that the datum says
    module _ (l : ItemList) (k : ListedAt s (datum + 6) 4 datum l) where
      pub keys_end : l.place + 4 * l.count ≤ length s
      keys_end = keys_inside s a w t below l k no_track

      abbrev keys : List Key
      keys = view 4 key_of l.count (drop l.place s)

      keys_found : keys_of name w.held ≡ some keys
      keys_found = by_index (some t) e ∙ ap (λ (x : Track). some x.keys) (track_of_lem s a w t below l k no_track)

      pub no_keys : l.count ≡ 0 → keys_of name w.held ≡ some []
      unfolding view
      no_keys z = keys_found ∙ ap (λ (n : ℕ). some (view 4 key_of n (drop l.place s))) z

      pub key_holds : (l.count ≡ 0 → ⊥) → (frame : ℕ) (key : PatternKeyframe) → ((default : Key) → key_means key ≡ choice keys default frame) → Holds (keys_of name w.held) frame key
      key_holds z frame key h = record { all = keys; there = keys_found; some_key = rw (view-length 4 key_of l.count (drop l.place s)) (omega arith); chosen = h }
