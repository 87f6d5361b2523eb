-- A section that was written is read back. Assumes nothing.
use Prim.Native.Nat.{ℕ, ◌+◌, ◌*◌, ◌≤◌, ◌<◌}
use mathlib.Core.List.{List, [], ◌∷◌, ◌++◌}
use mathlib.Core.Path.{◌≡◌, refl, sym, ap, ◌∙◌}
use native.Mathlib.Omega.{arith}
use lib.Dec.{lit<}
use lib.ListN.{length, take, drop, length-drop}
use lib.Seq.{drop-drop, take-append-le, drop-append-le}
use Rattle.util.specs.View.{little, little_bytes, word_at, same}
use Rattle.util.specs.Reader.{Outcome, accepted, run, bind, unless, answered}
use Rattle.util.specs.Place.{raised, moved, within}
use Rattle.util.proofs.Cut.{had, to}
use Rattle.util.proofs.Fields.{Stands, Row, row, stands_at, stands_all, stands_drop, stands_word, stands_bytes}
use Rattle.util.proofs.ReadsLaws.{goes_on}
use Rattle.info_block.specs.InfoBlock.{block_bytes}
use Rattle.info_block.proofs.WrittenLaws.{block_back}
use Rattle.pattern.specs.Pattern.{Pattern}
use Rattle.nitro.specs.Container.{Kind, pat, stamp_of, kind_of, stamped, section, value, Entry, entry_in, entry, entry_of}
use Rattle.nitro.proofs.ContainerLaws.{value_within}
use Rattle.pattern_section.specs.Written.{Lent, texture_count, palette_count, texture_place, palette_place, key_place, entry_bytes, section_block, section_length, section_fields, written}
use Rattle.pattern_section.proofs.SizedLaws.{header_even, header_length, written_length}
use Rattle.pattern_section.proofs.EntryBack.{held, Readable, Laid, laid, entry_back}

-- what is read of its entry
unfoldable pub entry_held : Lent → Entry pat
entry_held l = record { name = l.name; offset = 48; held = held l }

module _ (l : Lent) (r : Readable l) (sixteen : length l.name ≡ 16) (small : section_length l < 4294967296) where
  module _ (s : List ℕ) (w : Stands s 0 (written l)) where
    pub record Headed : Type 0 where
      pub stamp : take 4 s ≡ stamp_of pat
      pub size : word_at 4 s 4 ≡ length (written l)
      pub block : Stands s 8 (block_bytes 4 (section_block l))
      pub entry : Stands s 48 (entry_bytes l)

    pub headed : Headed
    unfolding written Row little_bytes
    headed =
        let f : Row s 0 (section_fields l) = row s 0 (section_fields l) w in
        let h = header_length l r.sized sixteen in
        record {
          stamp = stands_bytes s 0 (stamp_of pat) 4 f.0 refl;
          size = stands_word s 4 4 (section_length l) f.1.0 small ∙ sym (written_length l r.sized sixteen);
          block = f.1.1.0;
          entry = stands_at s (entry_bytes l) _ 48 (omega arith) f.1.1.1.0;
        }

    pub header_back : run section s 4 ≡ accepted 48 (section_block l)
    unfolding run bind section little_bytes
    header_back =
        let i = headed.entry.inside in
        had _ _ _ _ (omega arith) (block_back 4 (section_block l) (header_even l r.sized sixteen) s 8 headed.block (lit< tt) (lit< tt) 8)

    value_back : run (within 48 (value pat)) s 48 ≡ accepted (section_length l) (held l)
    unfolding raised moved
    value_back =
        value_within pat 48 s 48
        ∙ ap (λ (o : Outcome Pattern). raised 48 (moved 48 o)) (entry_back (drop 48 s) l (stands_drop s (entry_bytes l) 48 0 headed.entry) r)
        ∙ to _ _ _ (omega arith)

    -- the section's one entry, after the stamp
    pub entry_found : run (entry pat 0) s 4 ≡ accepted (length (written l)) (entry_held l)
    unfolding run entry entry_in unless bind little little_bytes entry_held
    entry_found =
        goes_on section (entry_in pat 0) s 4 _ _ header_back
        ∙ goes_on (within 48 (value pat)) _ s 48 _ _ value_back
        ∙ to _ _ _ (sym (written_length l r.sized sixteen))

    -- its stamp, for a call that takes some kinds
    pub stamp_back : (takes : List Kind) → kind_of takes (stamp_of pat) ≡ answered pat → run (stamped takes) s 0 ≡ accepted 4 pat
    unfolding stamped run
    stamp_back takes q =
        let i = headed.entry.inside in
        had _ _ _ _ (omega arith) (rw (headed.stamp, q) refl)

    -- what was lent stands where the entry says, byte for byte
    there : Laid (drop 48 s) l (stands_drop s (entry_bytes l) 48 0 headed.entry) r
    there = laid (drop 48 s) l (stands_drop s (entry_bytes l) 48 0 headed.entry) r

    at_place : (p n : ℕ) (b : List ℕ) → Stands (drop 48 s) p b → length b ≡ n → take n (drop (48 + p) s) ≡ b
    at_place p n b v e = ap (take n) (sym (drop-drop p 48 s)) ∙ stands_bytes (drop 48 s) p b n v e

    pub textures_back : take (16 * texture_count l) (drop (48 + texture_place l) s) ≡ l.textures
    textures_back = at_place (texture_place l) _ l.textures there.texture_names_lem r.sized.texture_bytes

    pub palettes_back : take (16 * palette_count l) (drop (48 + palette_place l) s) ≡ l.palettes
    palettes_back = at_place (palette_place l) _ l.palettes there.palette_names_lem r.sized.palette_bytes

    -- any n bytes of the keys, from the i-th on
    pub keys_back : (i n : ℕ) → i + n ≤ length l.keys → take n (drop (48 + (key_place l + i)) s) ≡ take n (drop i l.keys)
    keys_back i n h =
        let v = there.keys in
        ap (take n) (sym (drop-drop (key_place l + i) 48 s) ∙ sym (drop-drop i (key_place l) (drop 48 s)) ∙ ap (drop i) v.here ∙ drop-append-le i l.keys v.tail (omega arith))
        ∙ take-append-le n (drop i l.keys) v.tail (simp length-drop (omega arith))

  -- a section that was written is accepted whatever follows it, reaches as far as it was written, and holds what was written
  pub section_back : (t : List ℕ) → run (entry_of pat 0) (written l ++ t) 0 ≡ accepted (length (written l)) (entry_held l)
  unfolding entry_of kind_of same
  section_back t =
      let w = stands_all (written l) t in
      goes_on (stamped (pat ∷ [])) (λ _. entry pat 0) (written l ++ t) 0 _ _ (stamp_back (written l ++ t) w (pat ∷ []) refl) ∙ entry_found (written l ++ t) w
