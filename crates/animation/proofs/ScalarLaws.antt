-- The runs of the readers of scalar curves, by what the section holds. Assumes nothing.
use Prim.Native.Nat.{ℕ, ◌+◌, ◌-◌, ◌*◌, ◌/◌, ◌^◌, max, ◌≤◌, ◌<◌}
use mathlib.Core.Bool.{true}
use mathlib.Core.List.{List}
use mathlib.Core.Path.{◌≡◌, refl, sym, ap, subst, ◌∙◌}
use native.Mathlib.Nat.{mod-lt, div-le_self, div-add-mod', le_refl}
use native.Mathlib.Omega.{arith}
use borrow.Author.Tests.{le-ltb, lt-ltb}
use lib.ListN.{length, take, drop}
use lib.Pow.{pow_pos}
use Rattle.util.specs.View.{word_at, view}
use Rattle.util.specs.Reader.{accepted, refused, run, bind, unless}
use Rattle.util.proofs.Cut.{had, short, to}
use Rattle.util.proofs.ViewLaws.{view-take}
use Rattle.util.specs.Fixed.{Fix, fix1_19_12}
use Rattle.std.specs.Prelude.{Ok}
use Rattle.curve.specs.declared.SampleList.{SampleList}
use Rattle.curve.specs.declared.ScalarCurve.{ScalarCurve}
use Rattle.curve.specs.declared.Number.{Number}
use Rattle.curve.specs.Curve.{FramesTold, constant, samples, number_bytes}
use Rattle.curve.specs.CurveCode.{format_means, list_means, values_in, InsideOf}
use Rattle.curve.proofs.SampleLaws.{number_take, pair_take}
use Rattle.animation.specs.Animation.{Triple, translation, scale, Value, numbers_of, value_from, start_of, end_of, width_of, rate_of, values_of, list_of, curve_word, list_fields, format_of, value_size, scalar_list, scalar}
use Rattle.animation.specs.AnimationCode.{code_list, ScalarReads}

-- a curve word's end is below 4096
pub end_lt : (w : ℕ) → end_of w < 65536
end_lt w = let h = mod-lt (w / 2 ^ 16) (pow_pos 12) in omega arith

-- its rate has two bits
pub rate_le : (w : ℕ) → rate_of w ≤ 3
rate_le w = let h = mod-lt (w / 2 ^ 30) (pow_pos 2) in omega arith

-- the frames of a curve word's list
pub word_told : (w place size : ℕ) → start_of w < end_of w → FramesTold (list_of w place size) (values_of w)
word_told w place size h =
    let frames = end_of w - start_of w in
    record { ordered = omega arith; frames = sym (div-add-mod' frames (2 ^ rate_of w)); below = mod-lt frames (pow_pos (rate_of w)) }

-- ---- the fields of a list

-- from the code's start a and end b of a word w to those of the word that stands there
pub not_forward : (w v a b : ℕ) → w ≡ v → a ≡ start_of w → b ≡ end_of w → b ≤ a → end_of v ≤ start_of v
not_forward w v a b e x y h = subst (λ (z : ℕ). end_of z ≤ start_of z) e (subst (λ (z : ℕ). end_of w ≤ z) x (subst (λ (z : ℕ). z ≤ a) y h))

pub is_forward : (w v a b : ℕ) → w ≡ v → a ≡ start_of w → b ≡ end_of w → a < b → start_of v < end_of v
is_forward w v a b e x y h = subst (λ (z : ℕ). start_of z < end_of z) e (subst (λ (z : ℕ). start_of w < z) y (subst (λ (z : ℕ). z < b) x h))

module _ (p m : ℕ) (s : List ℕ) where
  pub word_short : length s < p + 4 → run (list_fields p) s m ≡ refused 2
  unfolding run bind curve_word list_fields
  word_short h = short _ _ _ h

  module _ (l : p + 4 ≤ length s) where
    pub backward : end_of (word_at 4 s p) ≤ start_of (word_at 4 s p) → run (list_fields p) s m ≡ refused 7
    unfolding run bind curve_word list_fields unless
    backward h = had _ _ _ _ l (rw (le-ltb (start_of (word_at 4 s p)) (end_of (word_at 4 s p)) h) refl)

    module _ (h : start_of (word_at 4 s p) < end_of (word_at 4 s p)) where
      pub offset_short : length s < p + 8 → run (list_fields p) s m ≡ refused 2
      unfolding run bind curve_word list_fields unless
      offset_short k = had _ _ _ _ l (rw (lt-ltb (start_of (word_at 4 s p)) (end_of (word_at 4 s p)) h) (short _ _ _ (omega arith)))

      pub fields_whole : p + 8 ≤ length s → run (list_fields p) s m ≡ accepted (max m (p + 8)) (word_at 4 s p, word_at 4 s (p + 4))
      unfolding run bind curve_word list_fields unless
      fields_whole k =
          had _ _ _ _ l
          (rw (lt-ltb (start_of (word_at 4 s p)) (end_of (word_at 4 s p)) h) (had _ _ _ _ (omega arith) (to _ _ _ (reach p m))))
        where
          reach : (p m : ℕ) → max (max m (p + 4)) (p + 4 + 4) ≡ max m (p + 8)
          reach p m = omega arith

-- a value does not see past its bytes
value_take : (t : Triple) (f : Fix) (size : ℕ) (bs : List ℕ) → number_bytes f * numbers_of t ≤ size → value_from t f (take size bs) ≡ value_from t f bs
value_take translation f size bs h = number_take f size bs (omega arith)
value_take scale f size bs h = pair_take f size bs h

-- ---- a constant, of n numbers

module _ (t : Triple) (p m : ℕ) (s : List ℕ) (n : ℕ) (e : n ≡ numbers_of t) where
  pub constant_short : length s < p + 4 * n → run (scalar t true p) s m ≡ refused 2
  unfolding run bind scalar
  constant_short h = short _ _ _ (subst (λ (k : ℕ). length s < p + 4 * k) e h)

  pub constant_whole : p + 4 * n ≤ length s → run (scalar t true p) s m ≡ accepted (max m (p + 4 * n)) (constant (value_from t fix1_19_12 (drop p s)), p + 4 * n)
  unfolding run bind scalar
  constant_whole h = rw (sym e) (had _ _ _ _ h (ap (λ (v : Value t). accepted (max m (p + 4 * n)) (constant v, p + 4 * n)) (value_take t fix1_19_12 (4 * n) (drop p s) (omega (arith, e)))))

-- ---- a list

number_fits : (t : Triple) (f : Fix) → number_bytes f ≤ number_bytes f * numbers_of t
number_fits translation f = omega arith
number_fits scale f = omega arith

module _ (t : Triple) (w off next m : ℕ) (s : List ℕ) where
  abbrev end : ℕ
  end = off + value_size t w * values_of w

  values_whole : end ≤ length s
      → run (scalar_list t w off next) s m ≡ accepted (max m end) (samples (list_of w off (value_size t w)) (view (value_size t w) (value_from t (format_of (width_of w))) (values_of w) (drop off s)), next)
  unfolding run bind scalar_list
  values_whole h =
      had _ _ _ _ h (ap (λ (vs : List (Value t)). accepted (max m end) (samples (list_of w off (value_size t w)) vs, next)) (view-take (value_size t w) (value_from t (format_of (width_of w))) (values_of w) (drop off s)))

  -- the list as the code has it, with values of z bytes
  module _ (z : ℕ) (e : z ≡ value_size t w) (l : SampleList) (q : l ≡ code_list w off z) where
    code_end : off + z * l.length ≡ end
    code_end = ap (λ (x : SampleList). off + z * x.length) q ∙ ap (λ (x : ℕ). off + x * values_of w) e

    code_list_lem : l ≡ code_list w off (value_size t w)
    code_list_lem = q ∙ ap (code_list w off) e

    pub code_short : length s < off + z * l.length → run (scalar_list t w off next) s m ≡ refused 2
    unfolding run bind scalar_list
    code_short h = short _ _ _ (subst (λ (x : ℕ). length s < x) code_end h)

    module _ (n : Number) (k : format_means n ≡ format_of (width_of w)) (f : start_of w < end_of w) (far : ℕ) (g : far ≡ max m (off + z * l.length)) (h : off + z * l.length ≤ length s) where
      room : end ≤ length s
      room = subst (λ (x : ℕ). x ≤ length s) code_end h

      values_there : InsideOf (numbers_of t) s (ScalarCurve.Samples (code_list w off (value_size t w)) n)
      values_there = (
        record {
          ends = room;
          framed = record { ordered = omega arith; rated = rate_le w };
          frames = div-le_self (end_of w - start_of w) (2 ^ rate_of w);
          wide = subst (λ (f : Fix). number_bytes f ≤ value_size t w) (sym k) (number_fits t (format_of (width_of w)));
        },
        subst (λ (f : Fix). number_bytes f * numbers_of t ≤ value_size t w) (sym k) (le_refl (value_size t w)),
      )

      pub code_whole : ScalarReads t (scalar_list t w off next) s m next (Ok (ScalarCurve.Samples l n, record { pos = next; reach = far }))
      code_whole =
          record {
            reads =
                values_whole room
                ∙ (ap (λ (j : ℕ). accepted j (samples (list_of w off (value_size t w)) (view (value_size t w) (value_from t (format_of (width_of w))) (values_of w) (drop off s)), next)) (sym (g ∙ ap (max m) code_end))
                ∙ (ap (λ (f : Fix). accepted far (samples (list_of w off (value_size t w)) (view (value_size t w) (value_from t f) (values_of w) (drop off s)), next)) (sym k)
                ∙ ap (λ (x : SampleList). accepted far (samples (list_means x) (values_in (value_from t) s x n), next)) (sym code_list_lem)));
            holds = (subst (λ (x : SampleList). InsideOf (numbers_of t) s (ScalarCurve.Samples x n)) (sym code_list_lem) values_there, le_refl next);
          }
