-- How long what is written is. Assumes nothing.
use Prim.Native.Nat.{ℕ}
use mathlib.Core.List.{flatten}
use mathlib.Core.Path.{◌≡◌, refl, ◌∙◌}
use native.Mathlib.Omega.{arith}
use lib.ListN.{length, length-append, length-map}
use Rattle.util.specs.View.{little_bytes}
use Rattle.util.proofs.ViewLaws.{view-length}
use Rattle.info_block.specs.InfoBlock.{block_bytes}
use Rattle.info_block.proofs.InfoBlockLaws.{Even}
use Rattle.info_block.proofs.WrittenLaws.{block_length}
use Rattle.pattern_section.specs.Written.{Lent, drawn_of, track_count, tracks_of, key_place, entry_length, entry_head, track_block, entry_bytes, section_length, section_block, written}
use Rattle.pattern_section.specs.WrittenCode.{Sized}
use Rattle.pattern_section.proofs.DrawnLaws.{datums_length, datums_eight, names_drawn}

-- the tracks' info block: as many datums as names, each of its own size
pub even : (l : Lent) → Sized l → Even 8 (track_block l)
even l k =
    let v = view-length 20 drawn_of (track_count l) l.tracks in
    let b = k.track_bytes_lem in
    record {
      datums = datums_length (key_place l) (tracks_of l) ∙ v;
      names = length-map (tracks_of l) _ ∙ v;
      sized = datums_eight (key_place l) (tracks_of l);
      sixteen = names_drawn (track_count l) l.tracks (omega arith);
    }

-- ---- lengths

pub entry_head_length : (f t p a b : ℕ) → length (flatten (entry_head f t p a b)) ≡ 12
unfolding flatten little_bytes
entry_head_length f t p a b = refl

module _ (l : Lent) (k : Sized l) where
  pub entry_length_lem : length (entry_bytes l) ≡ entry_length l
  unfolding entry_bytes flatten little_bytes
  entry_length_lem =
      let b = block_length 8 (track_block l) (even l k) in
      let x = k.texture_bytes in
      let y = k.palette_bytes in
      let z = k.key_bytes_lem in
      simp length-append (omega arith)

  module _ (sixteen : length l.name ≡ 16) where
    pub header_even : Even 4 (section_block l)
    unfolding little_bytes
    header_even = record { datums = refl; names = refl; sized = (refl, tt); sixteen = (sixteen, tt) }

    pub header_length : length (block_bytes 4 (section_block l)) ≡ 40
    header_length = block_length 4 (section_block l) header_even

    -- the section has as many bytes as it states
    pub written_length : length (written l) ≡ section_length l
    unfolding written flatten little_bytes
    written_length =
        let h = header_length in
        let e = entry_length_lem in
        simp length-append (omega arith)
