-- A name among the tracks of an SRT0 entry. Assumes nothing.
use Prim.Native.Nat.{ℕ, ◌+◌, ◌*◌, ◌≤◌, ◌<◌}
use mathlib.Core.List.{List, []}
use mathlib.Core.Option.{Option, none, some, map}
use mathlib.Core.Path.{◌≡◌, sym, ap, ◌∙◌}
use lib.ListN.{length, get_or}
use lib.Ieee.{Float}
use Rattle.curve.specs.Curve.{Curve}
use Rattle.info_block.specs.Name.{Name, earliest}
use Rattle.info_block.specs.InfoBlockCode.{block_at}
use Rattle.info_block.proofs.NameLaws.{found_below}
use Rattle.material_animation.specs.declared.MaterialAnimation.{MaterialAnimation as Known}
use Rattle.material_animation.specs.MaterialAnimation.{Shift, shift_at, shift_of}
use Rattle.material_animation.specs.MaterialAnimationCode.{TrackIs, WholeMaterial}
use Rattle.material_animation.proofs.MaterialLaws.{track_inside, track_of_lem}

module _ (s : List ℕ) (a : Known) (w : WholeMaterial s a) (name : Name) (frame : ℕ) where
  -- by the index that is found among the names where the code has them
  by_index : (m : Option ℕ) → m ≡ earliest name (block_at s 40 a.block).names → map (λ t. shift_at (get_or w.held.tracks t []) frame) m ≡ shift_of name frame w.held
  unfolding shift_of
  by_index m e = ap (map (λ t. shift_at (get_or w.held.tracks t []) frame)) (e ∙ ap (earliest name) (sym w.names))

  pub shift_nothing : none ≡ earliest name (block_at s 40 a.block).names → none ≡ shift_of name frame w.held
  shift_nothing e = by_index none e

  module _ (t : ℕ) (e : some t ≡ earliest name (block_at s 40 a.block).names) where
    below : t < a.block.count
    below = found_below s a.block.names a.block.count name t e

    pub found_inside : a.block.datums + 40 * t + 40 ≤ length s
    found_inside = track_inside s a w t below

    pub shift_found : (shift : Shift) → ((curves : List (Curve Float)) → TrackIs s (a.block.datums + 40 * t) curves → shift ≡ shift_at curves frame) → some shift ≡ shift_of name frame w.held
    shift_found shift h = ap some (h (get_or w.held.tracks t []) (track_of_lem s a w t below)) ∙ by_index (some t) e
