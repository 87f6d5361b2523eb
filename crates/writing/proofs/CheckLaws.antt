-- The tests, one after the other. Assumes nothing.
use Prim.Native.Nat.{ℕ, ◌+◌, ◌*◌, ◌/◌, ◌≤◌, ◌<◌}
use mathlib.Core.Bool.{Bool, true, false, ◌&&◌, and-eq-true_iff}
use mathlib.Core.List.{List, ◌++◌}
use mathlib.Core.Path.{◌≡◌, refl, sym, ap, ◌∙◌}
use native.Mathlib.Omega.{arith}
use borrow.Author.Tests.{leb-true, eqb-true, lt-leb, le-leb}
use lib.Dec.{leb, eqb}
use lib.ListN.{length, drop}
use lib.Seq.{sets}
use Rattle.util.specs.View.{view}
use Rattle.util.specs.Reader.{Verdict, answered, denied, given}
use Rattle.util.proofs.WritesLaws.{sets_front}
use Rattle.pattern.specs.Pattern.{key_of, inside}
use Rattle.pattern_section.specs.Written.{Lent, texture_count, palette_count, track_count, tracks_of, key_total, key_place, section_length, written}
use Rattle.writing.specs.WritePattern.{few, whole, chosen_inside, near, write_pattern}
use Rattle.std.specs.Prelude.{Result, Ok, Err}
use Rattle.util.specs.declared.refusal.Refusal.{Refusal}
use Rattle.writing.specs.WritingCode.{writing_means, WritesSection, lists}
use Rattle.pattern_section.specs.WrittenCode.{Sized}
use Rattle.pattern_section.proofs.SizedLaws.{written_length}

-- lists that pass the first two tests
pub sized : (l : Lent) → few l ≡ true → whole l ≡ true → Sized l
sized l a b =
    let a1 = (and-eq-true_iff (leb (texture_count l) 255) (leb (palette_count l) 255 && leb (track_count l) 255)).0 a in
    let a2 = (and-eq-true_iff (leb (palette_count l) 255) (leb (track_count l) 255)).0 a1.1 in
    let b1 = (and-eq-true_iff (eqb (length l.textures) (16 * texture_count l)) _).0 b in
    let b2 = (and-eq-true_iff (eqb (length l.palettes) (16 * palette_count l)) _).0 b1.1 in
    let b3 = (and-eq-true_iff (eqb (length l.tracks) (20 * track_count l)) (eqb (length l.keys) (4 * key_total (tracks_of l)))).0 b2.1 in
    let t = leb-true (texture_count l) 255 a1.0 in
    let p = leb-true (palette_count l) 255 a2.0 in
    let n = leb-true (track_count l) 255 a2.1 in
    record {
      textures = omega arith;
      palettes = omega arith;
      tracks = omega arith;
      texture_bytes = eqb-true _ _ b1.0;
      palette_bytes = eqb-true _ _ b2.0;
      track_bytes_lem = eqb-true _ _ b3.0;
      key_bytes_lem = eqb-true _ _ b3.1;
      key_place_lem = omega arith;
    }

pub few_tracks : (l : Lent) → few l ≡ true → track_count l < 256
few_tracks l a =
    let w = (and-eq-true_iff (leb (texture_count l) 255) _).0 a in
    let v = (and-eq-true_iff (leb (palette_count l) 255) (leb (track_count l) 255)).0 w.1 in
    let h = leb-true (track_count l) 255 v.1 in
    omega arith

-- where the keys stand, and how long the section is, as the code works it out
abbrev place_of : Lent → ℕ
place_of l = 28 + 28 * track_count l + length l.textures + length l.palettes

abbrev pub size_of : Lent → ℕ
size_of l = 48 + place_of l + length l.keys

place_is : (l : Lent) → Sized l → key_place l ≡ place_of l
place_is l k = let t = k.texture_bytes in let p = k.palette_bytes in omega arith

size_is : (l : Lent) → Sized l → section_length l ≡ size_of l
size_is l k = let t = k.texture_bytes in let p = k.palette_bytes in let n = k.key_bytes_lem in omega arith

module _ (l : Lent) (room : ℕ) where
  pub many : few l ≡ false → denied 15 ≡ write_pattern l room
  unfolding write_pattern
  many q = sym (rw q refl)

  module _ (a : few l ≡ true) where
    pub left_over : whole l ≡ false → denied 9 ≡ write_pattern l room
    unfolding write_pattern
    left_over q = sym (rw (a, q) refl)

    module _ (b : whole l ≡ true) where
      known : Sized l
      known = sized l a b

      pub inside_is : (r : Bool) → r ≡ inside (texture_count l) (palette_count l) (view 4 key_of (length l.keys / 4) l.keys) → chosen_inside l ≡ r
      inside_is r e =
          let k = known.key_bytes_lem in
          let q : key_total (tracks_of l) ≡ length l.keys / 4 = omega arith in
          ap (λ (n : ℕ). inside (texture_count l) (palette_count l) (view 4 key_of n l.keys)) q ∙ sym e

      pub outside : chosen_inside l ≡ false → denied 8 ≡ write_pattern l room
      unfolding write_pattern
      outside q = sym (rw (a, b, q) refl)

      -- r is whether the tracks' keys stand near, from the place on that the code works out
      module _ (c : chosen_inside l ≡ true) (r : Bool) (e : r ≡ near (place_of l) (tracks_of l)) where
        near_is : near (key_place l) (tracks_of l) && leb (section_length l) 4294967295 ≡ r && leb (size_of l) 4294967295
        near_is =
            ap (λ (x : ℕ). near x (tracks_of l) && leb (section_length l) 4294967295) (place_is l known)
            ∙ ap (λ (x : ℕ). near (place_of l) (tracks_of l) && leb x 4294967295) (size_is l known)
            ∙ ap (λ (x : Bool). x && leb (size_of l) 4294967295) (sym e)

        pub far : r && leb (size_of l) 4294967295 ≡ false → denied 16 ≡ write_pattern l room
        unfolding write_pattern
        far q = sym (rw (a, b, c, near_is ∙ q) refl)

        module _ (d : r && leb (size_of l) 4294967295 ≡ true) where
          pub no_room : room < size_of l → denied 11 ≡ write_pattern l room
          unfolding write_pattern
          no_room h = let q : leb (section_length l) room ≡ false = lt-leb _ room (let z = size_is l known in omega arith) in sym (rw (a, b, c, near_is ∙ d, q) refl)

          pub has_room : size_of l ≤ room → answered (size_of l) ≡ write_pattern l room
          unfolding write_pattern
          has_room h =
              let q : leb (section_length l) room ≡ true = le-leb _ room (let z = size_is l known in omega arith) in
              sym (rw (a, b, c, near_is ∙ d, q) (ap (λ (x : ℕ). answered x) (size_is l known)))

-- ---- what is not refused

module _ {A : Type 0} where
  passed : (b : Bool) (n : ℕ) (v : Verdict A) (a : A) → given b n v ≡ answered a → (b ≡ true) × (v ≡ answered a)
  passed true n v a e = (refl, e)
  passed false n v a e = let z : ◌≡◌ {A = ℕ} 0 1 = cc in absurd (omega arith)

-- it passes the tests, and has room
pub record Passed (l : Lent) (room n : ℕ) : Type 0 where
  pub sized : Sized l
  pub inside : chosen_inside l ≡ true
  pub near : near (key_place l) (tracks_of l) ≡ true
  pub small : section_length l < 4294967296
  pub size : n ≡ section_length l
  pub fits : n ≤ room

pub accepted_passed : (l : Lent) (room n : ℕ) → write_pattern l room ≡ answered n → Passed l room n
unfolding write_pattern
accepted_passed l room n e =
    let a = passed (few l) 15 _ n e in
    let b = passed (whole l) 9 _ n a.1 in
    let c = passed (chosen_inside l) 8 _ n b.1 in
    let d = passed (near (key_place l) (tracks_of l) && leb (section_length l) 4294967295) 16 _ n c.1 in
    let h = passed (leb (section_length l) room) 11 (answered (section_length l)) n d.1 in
    let w = (and-eq-true_iff (near (key_place l) (tracks_of l)) (leb (section_length l) 4294967295)).0 d.0 in
    let z = leb-true (section_length l) 4294967295 w.1 in
    let r = leb-true (section_length l) room h.0 in
    let q : section_length l ≡ n = let v = h.1 in cc in
    record { sized = sized l a.0 b.0; inside = c.0; near = w.0; small = omega arith; size = sym q; fits = omega arith }

-- ---- the call, whose name and frames play no part in the tests

module _ (l : Lent) (before : List ℕ) (v : Result ℕ Refusal) (h : writing_means v ≡ write_pattern (lists l.textures l.palettes l.tracks l.keys) (length before)) where
  tested : (w : Result ℕ Refusal) → v ≡ w → writing_means w ≡ write_pattern l (length before)
  unfolding write_pattern
  tested w q = ap writing_means (sym q) ∙ h

  pub refused_is : (n : Refusal) → v ≡ Err n → WritesSection l before before (Err n)
  refused_is n q = record { answers = tested (Err n) q; slice = rw (← tested (Err n) q) refl }

  module _ (n : ℕ) (q : v ≡ Ok n) where
    pub may_write : Passed l (length before) n
    may_write = accepted_passed l (length before) n (sym (tested (Ok n) q))

    pub written_is : (after : List ℕ) → length l.name ≡ 16 → after ≡ sets before 0 (written l) → WritesSection l before after (Ok n)
    written_is after sixteen e =
        let size : length (written l) ≡ n = written_length l may_write.sized sixteen ∙ sym may_write.size in
        let r = may_write.fits in
        record {
          answers = tested (Ok n) q;
          slice = rw (← tested (Ok n) q) (e ∙ sets_front before (written l) (omega arith) ∙ ap (λ (k : ℕ). written l ++ drop k before) size);
        }
