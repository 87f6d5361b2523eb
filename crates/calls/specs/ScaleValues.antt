-- The values of a scale beside the record of its curve, as a caller finds them who reads each that the record tells of. Proved in
-- proofs/ScaleValues.antt for every section, with nothing else assumed.
use Rattle.std.specs.Prelude.{ℕ, ◌≤◌, ◌<◌, List, ◌≡◌}
use Rattle.util.specs.Reader.{Outcome, accepted, refused}
use Rattle.curve.specs.Curve.{Pair, Recorded, no_curve, always, listed}
use Rattle.animation.specs.Animation.{scale}
use Rattle.nitro.specs.Container.{jnt}
use Rattle.calls.specs.Calls.{of_object, curve, scale_value, on, answer}

-- how many values a curve's record tells of
abbrev pub values_told : Recorded Pair → ℕ
values_told no_curve = 0
values_told (always v) = 1
values_told (listed l n) = n

-- of an axis of an object's scale
module _ (s : List ℕ) (entry object axis : ℕ) where
  abbrev pub scale_record : Outcome (Recorded Pair)
  scale_record = answer (on jnt entry (of_object object (curve scale axis))) s

  abbrev pub value_at : ℕ → Outcome Pair
  value_at index = answer (on jnt entry (of_object object (scale_value axis index))) s

  pub record ScaleValues : Type 0 where
    -- each value that the record tells of is answered, and an index past them is refused
    pub there : (r : ℕ) (c : Recorded Pair) → scale_record ≡ accepted r c → (index : ℕ) → index < values_told c → (v : Pair) × (value_at index ≡ accepted r v)
    pub past : (r : ℕ) (c : Recorded Pair) → scale_record ≡ accepted r c → (index : ℕ) → values_told c ≤ index → value_at index ≡ refused 9
    -- a constant's one value is the record's
    pub constant : (r : ℕ) (v : Pair) → scale_record ≡ accepted r (always v) → value_at 0 ≡ accepted r v
    -- where the record is refused, each value is, with the same number
    pub refusal : (n : ℕ) → scale_record ≡ refused n → (index : ℕ) → value_at index ≡ refused n
