use Prim.Native.Nat.{◌/◌}
use mathlib.Core.List.{[]}
use native.Mathlib.Omega.{arith}
use lib.ListN.{length}
use Rattle.util.proofs.Fields.{nothing, more, several}
use Rattle.info_block.specs.InfoBlock.{block_bytes}
use Rattle.info_block.proofs.WrittenLaws.{block_length}
use Rattle.pattern_section.specs.Written.{lent, texture_place, palette_place, track_block, entry_head, entry_bytes}
use Rattle.pattern_section.proofs.SizedLaws.{even, entry_head_length}
use Rattle.pattern_section.proofs.put_entry.Goals as goal

-- `pattern_section::put_entry` meets its contract. Assumes nothing.
pub put_tracks-b-requires : goal.put_tracks-b-requires
put_tracks-b-requires c =
    let q = c.requires.0 in
    (omega arith, omega arith, omega arith, omega arith)

pub put_bytes-c-requires : goal.put_bytes-c-requires
put_bytes-c-requires c =
    let q = c.requires.0 in
    omega arith

pub put_bytes-d-requires : goal.put_bytes-d-requires
put_bytes-d-requires c =
    let q = c.requires.0 in
    omega arith

pub put_bytes-requires : goal.put_bytes-requires
put_bytes-requires c =
    let q = c.requires.0 in
    omega arith

pub returns : goal.returns
unfolding entry_bytes
returns c =
    let a = c.args in
    let l = lent [] a.frames a.textures.now a.palettes.now a.tracks.now a.keys.now in
    let q = c.requires.0 in
    let e1 = c.put_entry_head-a.ensures in
    let e2 = c.put_tracks-b.ensures in
    let e3 = c.put_bytes-c.ensures in
    let e4 = c.put_bytes-d.ensures in
    let e5 = c.put_bytes.ensures in
    let t = length l.textures / 16 in
    let p = length l.palettes / 16 in
    let h = entry_head_length l.frames t p (texture_place l) (palette_place l) in
    let b = block_length 8 (track_block l) (even l q) in
    let v1 = several (nothing a.out.now a.at) (entry_head l.frames t p (texture_place l) (palette_place l)) c.put_entry_head-a.new.out c.put_entry_head-a.result (omega arith) e1.1 in
    let v2 = more v1 (block_bytes 8 (track_block l)) c.put_tracks-b.new.out c.put_tracks-b.result (omega arith) e2.1 in
    let v3 = more v2 l.textures c.put_bytes-c.new.out c.put_bytes-c.result e3.0 e3.1 in
    let v4 = more v3 l.palettes c.put_bytes-d.new.out c.put_bytes-d.result e4.0 e4.1 in
    let v5 = more v4 l.keys c.put_bytes.new.out c.put_bytes.result e5.0 e5.1 in
    (omega arith, v5.is)
