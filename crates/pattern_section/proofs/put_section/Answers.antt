use mathlib.Core.List.{[]}
use native.Mathlib.Omega.{arith}
use Rattle.util.specs.View.{little_bytes}
use Rattle.util.proofs.Fields.{nothing, more, word}
use Rattle.info_block.specs.InfoBlock.{block_bytes}
use Rattle.nitro.specs.Container.{pat, stamp_of}
use Rattle.pattern_section.specs.Written.{Lent, lent, section_block, entry_bytes, section_length, written}
use Rattle.pattern_section.specs.WrittenCode.{Sized}
use Rattle.pattern_section.proofs.SizedLaws.{header_length, entry_length_lem}
use Rattle.pattern_section.proofs.put_section.Goals as goal

-- `pattern_section::put_section` meets its contract. Assumes nothing.
-- the entry does not hold its name
unnamed : (l : Lent) → Sized l → Sized (lent [] l.frames l.textures l.palettes l.tracks l.keys)
unnamed l k =
    record {
      textures = k.textures;
      palettes = k.palettes;
      tracks = k.tracks;
      texture_bytes = k.texture_bytes;
      palette_bytes = k.palette_bytes;
      track_bytes_lem = k.track_bytes_lem;
      key_bytes_lem = k.key_bytes_lem;
      key_place_lem = k.key_place_lem;
    }

pub put_entry-requires : goal.put_entry-requires
put_entry-requires c =
    let a = c.args in
    let l = lent a.name.now a.frames a.textures.now a.palettes.now a.tracks.now a.keys.now in
    (unnamed l c.requires.1, omega arith)

pub returns : goal.returns
unfolding written entry_bytes little_bytes
returns c =
    let a = c.args in
    let l = lent a.name.now a.frames a.textures.now a.palettes.now a.tracks.now a.keys.now in
    let k = c.requires.1 in
    let e1 = c.put_word-a.ensures in
    let e2 = rw c.requires.2 at c.put_word-b.ensures in
    let e3 = c.put_section_block-c.ensures in
    let e4 = c.put_entry.ensures in
    let h = header_length l k c.requires.0 in
    let m = entry_length_lem l k in
    let v1 = more (nothing a.out.now 0) (stamp_of pat) c.put_word-a.new.out c.put_word-a.result e1.0 e1.1 in
    let v2 = word v1 4 (section_length l) c.put_word-b.new.out c.put_word-b.result e2 in
    let v3 = more v2 (block_bytes 4 (section_block l)) c.put_section_block-c.new.out c.put_section_block-c.result (omega arith) e3.1 in
    let v4 = more v3 (entry_bytes l) c.put_entry.new.out c.put_entry.result (omega arith) e4.1 in
    v4.is
