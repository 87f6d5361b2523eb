-- The tracks that are lent, one after the other. Assumes nothing.
use Prim.Native.Nat.{ℕ, zero, suc, ◌+◌, ◌*◌, ◌≤◌, ◌<◌}
use mathlib.Core.List.{List, [], ◌∷◌, flatten}
use mathlib.Core.Path.{◌≡◌, refl, sym, ap, ◌∙◌}
use native.Mathlib.Numerals.{add-one}
use native.Mathlib.Omega.{arith}
use lib.ListN.{length, take, drop, drop_of_length-le, length-drop, length-map}
use lib.Seq.{sets, drop-cons, take-take, length-take-le}
use Rattle.util.specs.View.{little_bytes, word_at, view}
use Rattle.util.proofs.ViewLaws.{view-length, view_at, word_part}
use Rattle.util.proofs.All.{Each}
use Rattle.util.proofs.WritesLaws.{sets_after}
use Rattle.util.proofs.Fields.{length-flatten}
use Rattle.pattern_section.specs.Written.{Drawn, drawn_of, drawn, datum, datums, names}

module _ (n : ℕ) (bs : List ℕ) where
  pub drawn_step : (i : ℕ) → i < n → drop i (drawn n bs) ≡ drawn_of (take 20 (drop (20 * i) bs)) ∷ drop (i + 1) (drawn n bs)
  drawn_step i h =
      let l : i < length (drawn n bs) = rw (view-length 20 drawn_of n bs) h in
      rw (drop-cons (drawn n bs) i (drawn_of []) l, add-one i) (ap (λ (t : Drawn). t ∷ drop (suc i) (drawn n bs)) (view_at 20 drawn_of n i bs (drawn_of []) h))

  pub drawn_end : (i : ℕ) → n ≤ i → drop i (drawn n bs) ≡ []
  drawn_end i h = let l : length (drawn n bs) ≤ i = rw (view-length 20 drawn_of n bs) h in drop_of_length-le (drawn n bs) l

  -- track i's datum is written: the others are still to do
  pub datums_step : (i : ℕ) (out out' : List ℕ) (to keys count : ℕ) → i < n → count ≡ word_at 4 bs (20 * i + 16) → out' ≡ sets out to (datum count keys)
      → sets out' (to + 8) (flatten (datums (keys + 4 * count) (drop (i + 1) (drawn n bs)))) ≡ sets out to (flatten (datums keys (drop i (drawn n bs))))
  unfolding datums flatten little_bytes
  datums_step i out out' to keys count h e w =
      let q : word_at 4 (take 20 (drop (20 * i) bs)) 16 ≡ count = word_part 4 20 (20 * i) 16 bs (omega arith) ∙ sym e in
      rw (drawn_step i h, q, w) (sets_after out to (to + 8) (datum count keys) (flatten (datums (keys + 4 * count) (drop (i + 1) (drawn n bs)))) refl)

  pub datums_end : (i : ℕ) (out : List ℕ) (to keys : ℕ) → n ≤ i → out ≡ sets out to (flatten (datums keys (drop i (drawn n bs))))
  unfolding datums flatten
  datums_end i out to keys h = rw (drawn_end i h) refl

  pub name_length : (i : ℕ) → i < n → 20 * n ≤ length bs → length (take 16 (drop (20 * i) bs)) ≡ 16
  name_length i h l = length-take-le 16 (drop (20 * i) bs) (simp length-drop (omega arith))

  -- track i's name is written
  pub names_step : (i : ℕ) (out out' x : List ℕ) (to : ℕ) → i < n → x ≡ take 16 (drop (20 * i) bs) → length x ≡ 16 → out' ≡ sets out to x
      → sets out' (to + 16) (flatten (names (drop (i + 1) (drawn n bs)))) ≡ sets out to (flatten (names (drop i (drawn n bs))))
  unfolding flatten
  names_step i out out' x to h e l w =
      rw (drawn_step i h, take-take 16 20 (drop (20 * i) bs) (omega arith), ← e, w) (sets_after out to (to + 16) x (flatten (names (drop (i + 1) (drawn n bs)))) (ap (λ (k : ℕ). to + k) l))

  pub names_end : (i : ℕ) (out : List ℕ) (to : ℕ) → n ≤ i → out ≡ sets out to (flatten (names (drop i (drawn n bs))))
  unfolding flatten
  names_end i out to h = rw (drawn_end i h) refl

-- ---- lengths

pub datums_length : (place : ℕ) (ts : List Drawn) → length (datums place ts) ≡ length ts
unfolding datums
datums_length place [] = refl
datums_length place (t ∷ ts) = ap suc (datums_length (place + 4 * t.count) ts)

pub datums_eight : (place : ℕ) (ts : List Drawn) → Each (λ x. length x ≡ 8) (datums place ts)
unfolding datums little_bytes flatten
datums_eight place [] = tt
datums_eight place (t ∷ ts) = (refl, datums_eight (place + 4 * t.count) ts)

pub names_drawn : (n : ℕ) (bs : List ℕ) → 20 * n ≤ length bs → Each (λ x. length x ≡ 16) (names (drawn n bs))
unfolding view
names_drawn zero bs h = tt
names_drawn (suc n) bs h =
    (ap length (take-take 16 20 bs (omega arith)) ∙ length-take-le 16 bs (omega arith), names_drawn n (drop 20 bs) (simp length-drop (omega arith)))

pub names_drawn_length : (n : ℕ) (bs : List ℕ) → 20 * n ≤ length bs → length (flatten (names (drawn n bs))) ≡ 16 * n
names_drawn_length n bs h = length-flatten 16 (names (drawn n bs)) (names_drawn n bs h) ∙ ap (λ (k : ℕ). 16 * k) (length-map (drawn n bs) _ ∙ view-length 20 drawn_of n bs)

pub datums_drawn_length : (place n : ℕ) (bs : List ℕ) → length (flatten (datums place (drawn n bs))) ≡ 8 * n
datums_drawn_length place n bs = length-flatten 8 (datums place (drawn n bs)) (datums_eight place (drawn n bs)) ∙ ap (λ (k : ℕ). 8 * k) (datums_length place (drawn n bs) ∙ view-length 20 drawn_of n bs)
