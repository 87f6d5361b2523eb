-- The tests that go through the tracks that are lent. Assumes nothing.
use Prim.Native.Nat.{ℕ, ◌+◌, ◌*◌, ◌≤◌, ◌<◌}
use mathlib.Core.Bool.{true, false, ◌&&◌}
use mathlib.Core.List.{List}
use mathlib.Core.Path.{◌≡◌, refl, sym, ◌∙◌}
use native.Mathlib.Omega.{arith}
use borrow.Author.Tests.{lt-ltb, le-ltb}
use lib.Dec.{ltb}
use lib.ListN.{take, drop}
use Rattle.util.specs.View.{word_at}
use Rattle.util.specs.Sums.{total}
use Rattle.util.proofs.ViewLaws.{word_part}
use Rattle.pattern_section.specs.Written.{drawn, key_total}
use Rattle.pattern_section.proofs.DrawnLaws.{drawn_step, drawn_end}
use Rattle.writing.specs.WritePattern.{near}

module _ (n : ℕ) (bs : List ℕ) where
  -- track i's keys are counted
  pub total_step : (i count : ℕ) → i < n → count ≡ word_at 4 bs (20 * i + 16) → key_total (drop i (drawn n bs)) ≡ count + key_total (drop (i + 1) (drawn n bs))
  unfolding total
  total_step i count h e =
      let q : word_at 4 (take 20 (drop (20 * i) bs)) 16 ≡ count = word_part 4 20 (20 * i) 16 bs (omega arith) ∙ sym e in
      rw (drawn_step n bs i h, q) refl

  pub total_end : (i : ℕ) → n ≤ i → key_total (drop i (drawn n bs)) ≡ 0
  unfolding total
  total_end i h = rw (drawn_end n bs i h) refl

  -- .. and stand near
  near_step : (i keys count : ℕ) → i < n → count ≡ word_at 4 bs (20 * i + 16) → near keys (drop i (drawn n bs)) ≡ ltb keys 65536 && near (keys + 4 * count) (drop (i + 1) (drawn n bs))
  unfolding near
  near_step i keys count h e =
      let q : word_at 4 (take 20 (drop (20 * i) bs)) 16 ≡ count = word_part 4 20 (20 * i) 16 bs (omega arith) ∙ sym e in
      rw (drawn_step n bs i h, q) refl

  pub near_next : (i keys count : ℕ) → i < n → count ≡ word_at 4 bs (20 * i + 16) → keys < 65536 → near keys (drop i (drawn n bs)) ≡ near (keys + 4 * count) (drop (i + 1) (drawn n bs))
  near_next i keys count h e l = near_step i keys count h e ∙ rw (lt-ltb keys 65536 l) refl

  pub near_far : (i keys : ℕ) → i < n → 65536 ≤ keys → near keys (drop i (drawn n bs)) ≡ false
  near_far i keys h l = near_step i keys (word_at 4 bs (20 * i + 16)) h refl ∙ rw (le-ltb keys 65536 l) refl

  pub near_end : (i keys : ℕ) → n ≤ i → near keys (drop i (drawn n bs)) ≡ true
  unfolding near
  near_end i keys h = rw (drawn_end n bs i h) refl
