-- What the code of srt finds of a track. Assumes nothing.
use Rattle.std.specs.Prelude.{ℕ, ◌+◌, ◌≤◌, List, ◌≡◌, length, drop, Float, Result, MatchResult}
use Rattle.util.specs.declared.refusal.Refusal.{Refusal}
use Rattle.util.specs.RefusalCode.{number_of}
use Rattle.util.specs.Reader.{denied, told}
use Rattle.curve.specs.Curve.{Curve}
use Rattle.material_animation.specs.MaterialAnimationCode.{TrackIs}
use Rattle.nitro.specs.Container.{srt}
use Rattle.srt.specs.declared.TrackAt.{TrackAt}
use Rattle.calls.specs.Calls.{MaterialQuery, ask_material, of_material, on, answer}

-- where track t of entry i stands: every call on it is answered from its channels
pub record TrackStands (s : List ℕ) (i t : ℕ) (p : TrackAt) : Type 0 where
  pub channels : List (Curve Float)
  pub start : p.offset ≤ length s
  pub inside : p.datum + 40 ≤ length (drop p.offset s)
  pub track : TrackIs (drop p.offset s) p.datum channels
  pub answers : (q : MaterialQuery) → told (answer (on srt i (of_material t q)) s) ≡ ask_material q p.offset channels

abbrev pub TrackFinds : List ℕ → ℕ → ℕ → Result TrackAt Refusal → Type 0
TrackFinds s i t x = MatchResult x (TrackStands s i t) (λ e. (q : MaterialQuery) → told (answer (on srt i (of_material t q)) s) ≡ denied (number_of e))
