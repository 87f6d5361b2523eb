-- Four readings of document 01 that are easy to slip into, each with an input that tells it from the right one. Assumes nothing.
use Rattle.std.specs.Prelude.{ℕ, zero, suc, ◌+◌, ◌-◌, ◌*◌, ◌/◌, cond, List, [], ◌∷◌, ◌≡◌, refl, ltb, get_or}
use Rattle.util.specs.Reader.{accepted, refused}
use Rattle.curve.specs.Curve.{floor, ceil, index}
use Rattle.pattern.specs.Pattern.{Key}
use Rattle.gltf.specs.Curve.{over, frames_of}
use Rattle.calls.specs.Calls.{check, answer}
use Rattle.calls.specs.Evaluate.{evaluate}
use Rattle.calls.specs.Pinned.{unsorted, key_at}
use Rattle.calls.specs.Examples.{scroll, scroll_record}

-- 1. lo from the exact fraction: start 0, end 50, fifty values, frame 1. The rounded i is below 1, so lo is 0 and hi is 1; the exact
-- fraction 1 / 49 times 49 would make lo 1.
pub exact_fraction : (floor (index 0 50 1 50) ≡ 0) × (ceil (index 0 50 1 50) ≡ 1) × ((1 - 0) * (50 - 1) / (50 - 1 - 0) ≡ 1)
unfolding evaluate
exact_fraction = (refl, refl, refl)

-- 2. the frames counted by division rounded down: start 0, end 11, rate 2 has the frames 0, 2, 4, 6, 8, 10
pub rounded_down : (frames_of (over 0 11 2) ≡ 0 ∷ 2 ∷ 4 ∷ 6 ∷ 8 ∷ 10 ∷ []) × ((11 - 0) / 2 ≡ 5)
unfolding evaluate
rounded_down = (refl, refl)

-- 3. the keys searched by halving: the first later key between lo and hi, as if they were sorted
unfoldable pub halving : ℕ → List Key → ℕ → ℕ → ℕ → ℕ
halving zero keys frame lo hi = lo
halving (suc steps) keys frame lo hi =
    let mid = (lo + hi) / 2 in
    let low = halving steps keys frame lo mid in
    let high = halving steps keys frame (mid + 1) hi in
    let later = cond (ltb frame (get_or keys mid (record { frame = 0; texture = 0; palette = 0 })).frame) low high in
    cond (ltb lo hi) later lo

-- keys at frames 5, 2, 9: at frame 2 key 0 is chosen, and halving would choose key 1
pub halved : (key_at 2 ≡ 0) × (halving 3 unsorted 2 0 3 - 1 ≡ 1)
unfolding evaluate halving
halved = (refl, refl)

-- 4. an empty list past the end let through: at the end of the section it is whole, one byte further it is too short
pub empty_list : (answer (check 0) (scroll 84) ≡ accepted 132 scroll_record) × (answer (check 0) (scroll 85) ≡ refused 2)
unfolding evaluate
empty_list = (refl, refl)
