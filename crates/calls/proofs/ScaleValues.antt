-- The values of a scale are those that the record of its curve tells of. Assumes nothing.
use Prim.Native.Nat.{ℕ, ◌≤◌, ◌<◌}
use mathlib.Core.Bool.{Bool, true, false}
use mathlib.Core.List.{List, [], ◌∷◌}
use mathlib.Core.Path.{◌≡◌, refl, sym, ap, ◌∙◌}
use native.Mathlib.Omega.{arith}
use borrow.Author.Tests.{lt-ltb, le-ltb}
use lib.Dec.{ltb}
use lib.ListN.{length, get_or}
use Rattle.util.specs.Reader.{Outcome, accepted, refused, run, Verdict, answered, given, tell}
use Rattle.util.proofs.ReadsLaws.{goes_on, stops, not_both}
use Rattle.matrix.specs.Matrix.{f0}
use Rattle.curve.specs.Curve.{Curve, none, constant, samples, stored, pair_at, Recorded, always, recorded, Pair}
use Rattle.animation.specs.Animation.{still_object}
use Rattle.nitro.specs.Container.{jnt, Entry, entry_of}
use Rattle.calls.specs.Calls.{ask_object, ask, reader, answer}
use Rattle.calls.specs.ScaleValues.{values_told, scale_record, ScaleValues}

-- a record tells of as many values as the curve stores
told_count : (entry : ℕ) (c : Curve Pair) → values_told (recorded entry c) ≡ length (stored c)
unfolding recorded
told_count entry none = refl
told_count entry (constant v) = refl
told_count entry (samples l vs) = refl

-- both verdicts about a curve: the tests of the object's and the axis's index come first
abbrev record_told : Bool → Bool → ℕ → Curve Pair → Verdict (Recorded Pair)
record_told b d entry c = given b 9 (given d 9 (answered (recorded entry c)))

abbrev value_told : Bool → Bool → Curve Pair → ℕ → Verdict Pair
value_told b d c index = given b 9 (given d 9 (pair_at c index))

module _ (s : List ℕ) (m entry : ℕ) where
  there : (b d : Bool) (c : Curve Pair) (r : ℕ) (x : Recorded Pair) → run (tell (record_told b d entry c)) s m ≡ accepted r x
      → (index : ℕ) → index < values_told x → (v : Pair) × (run (tell (value_told b d c index)) s m ≡ accepted r v)
  unfolding run
  there true true c r x e index h =
      let p : m ≡ r = cc in
      let q : recorded entry c ≡ x = cc in
      let l : index < length (stored c) = rw (sym (told_count entry c), q) h in
      (get_or (stored c) index (record { first = f0; second = f0 }), rw (lt-ltb index (length (stored c)) l, p) refl)
  there true false c r x e index h = let z : ◌≡◌ {A = ℕ} 0 1 = cc in absurd (omega arith)
  there false d c r x e index h = let z : ◌≡◌ {A = ℕ} 0 1 = cc in absurd (omega arith)

  past : (b d : Bool) (c : Curve Pair) (r : ℕ) (x : Recorded Pair) → run (tell (record_told b d entry c)) s m ≡ accepted r x
      → (index : ℕ) → values_told x ≤ index → run (tell (value_told b d c index)) s m ≡ refused 9
  unfolding run
  past true true c r x e index h =
      let q : recorded entry c ≡ x = cc in
      let l : length (stored c) ≤ index = rw (sym (told_count entry c), q) h in
      rw (le-ltb index (length (stored c)) l) refl
  past true false c r x e index h = refl
  past false d c r x e index h = refl

  single : (b d : Bool) (c : Curve Pair) (r : ℕ) (v : Pair) → run (tell (record_told b d entry c)) s m ≡ accepted r (always v) → run (tell (value_told b d c 0)) s m ≡ accepted r v
  unfolding run recorded
  single true true none r v e = let z : ◌≡◌ {A = ℕ} 0 1 = cc in absurd (omega arith)
  single true true (constant w) r v e = let p : m ≡ r = cc in let q : w ≡ v = cc in rw (p, q) refl
  single true true (samples l vs) r v e = let z : ◌≡◌ {A = ℕ} 0 1 = cc in absurd (omega arith)
  single true false c r v e = let z : ◌≡◌ {A = ℕ} 0 1 = cc in absurd (omega arith)
  single false d c r v e = let z : ◌≡◌ {A = ℕ} 0 1 = cc in absurd (omega arith)

  denies : (b d : Bool) (c : Curve Pair) (n : ℕ) → run (tell (record_told b d entry c)) s m ≡ refused n → (index : ℕ) → run (tell (value_told b d c index)) s m ≡ refused n
  unfolding run
  denies true true c n e index = let z : ◌≡◌ {A = ℕ} 0 1 = cc in absurd (omega arith)
  denies true false c n e index = let q : 9 ≡ n = cc in ap refused q
  denies false d c n e index = let q : 9 ≡ n = cc in ap refused q

pub scale_values : (s : List ℕ) (i o axis : ℕ) → ScaleValues s i o axis
unfolding answer reader ask ask_object
scale_values s i o axis = go (run (entry_of jnt i) s 0) refl
  where
    go : (x : Outcome (Entry jnt)) → run (entry_of jnt i) s 0 ≡ x → ScaleValues s i o axis
    go (refused n) q =
        record {
          there = λ r c e. absurd (not_both e (stops _ _ _ _ n q));
          past = λ r c e. absurd (not_both e (stops _ _ _ _ n q));
          constant = λ r v e. absurd (not_both e (stops _ _ _ _ n q));
          refusal = λ k e index. let f : scale_record s i o axis ≡ refused n = stops _ _ _ _ n q in let p : n ≡ k = cc in stops _ _ _ _ n q ∙ ap refused p;
        }
    go (accepted m e) q =
        let object = get_or e.held.objects o still_object in
        let b = ltb o (length e.held.objects) in
        let d = ltb axis 3 in
        let c = get_or (object.scale.x ∷ object.scale.y ∷ object.scale.z ∷ []) axis none in
        record {
          there = λ r x h index l. let w = there s m e.offset b d c r x (sym (goes_on _ _ _ _ m e q) ∙ h) index l in (w.0, goes_on _ _ _ _ m e q ∙ w.1);
          past = λ r x h index l. goes_on _ _ _ _ m e q ∙ past s m e.offset b d c r x (sym (goes_on _ _ _ _ m e q) ∙ h) index l;
          constant = λ r v h. goes_on _ _ _ _ m e q ∙ single s m e.offset b d c r v (sym (goes_on _ _ _ _ m e q) ∙ h);
          refusal = λ n h index. goes_on _ _ _ _ m e q ∙ denies s m e.offset b d c n (sym (goes_on _ _ _ _ m e q) ∙ h) index;
        }
