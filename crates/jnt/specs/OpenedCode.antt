-- What the code of opened.rt finds: the object that a call asks about. Assumes nothing.
use Rattle.std.specs.Prelude.{ℕ, ◌≤◌, ◌<◌, List, ◌≡◌, length, drop, Result, MatchResult}
use Rattle.util.specs.declared.refusal.Refusal.{Refusal}
use Rattle.util.specs.RefusalCode.{number_of}
use Rattle.util.specs.Reader.{denied, told}
use Rattle.animation.specs.declared.Animation.{Animation as Known}
use Rattle.animation.specs.declared.TRSCurves.{TRSCurves}
use Rattle.animation.specs.AnimationCode.{object_curves, WholeAnimation}
use Rattle.trs.specs.TrsCode.{ObjectStands}
use Rattle.nitro.specs.Container.{jnt}
use Rattle.calls.specs.Calls.{ObjectQuery, ask_object, of_object, on, answer}

-- object o of entry i, which stands at `offset` and is known as a: every call on the object is answered from its curves
pub record ObjectAt (s : List ℕ) (i o offset : ℕ) (a : Known) : Type 0 where
  pub start : offset ≤ length s
  pub whole : WholeAnimation (drop offset s) a
  pub there : o < a.objects
  pub answers : (q : ObjectQuery) (c : TRSCurves) → ObjectStands (drop offset s) o c → told (answer (on jnt i (of_object o q)) s) ≡ ask_object q offset (object_curves a.tables (drop offset s) c)

abbrev pub ObjectOpens : List ℕ → ℕ → ℕ → Result (ℕ × Known) Refusal → Type 0
ObjectOpens s i o x = MatchResult x (λ f. ObjectAt s i o f.0 f.1) (λ e. (q : ObjectQuery) → told (answer (on jnt i (of_object o q)) s) ≡ denied (number_of e))
