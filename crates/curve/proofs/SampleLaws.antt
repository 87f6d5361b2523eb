-- What is sampled of a list that stands in a section. Assumes nothing.
use Prim.Native.Nat.{ℕ, ◌+◌, ◌-◌, ◌*◌, ◌≤◌, ◌<◌}
use mathlib.Core.Bool.{Bool, true, false, cond}
use mathlib.Core.List.{List, [], ◌∷◌}
use mathlib.Core.Path.{◌≡◌, refl, sym, ap, subst, ◌∙◌}
use native.Mathlib.Omega.{arith}
use borrow.Author.Tests.{lt-leb, le-ltb, lt-ltb}
use lib.Dec.{leb}
use lib.ListN.{length, take, drop, get_or}
use lib.Seq.{take-take}
use lib.Ieee.{Float}
use Rattle.util.specs.Fixed.{Fix, fixed}
use Rattle.util.specs.View.{little}
use Rattle.util.specs.Reader.{answered, denied}
use Rattle.matrix.specs.Matrix.{f0}
use Rattle.util.proofs.Cut.{take-drop-take}
use Rattle.util.proofs.ViewLaws.{view-length, view_there, view-map}
use Rattle.curve.specs.declared.Number.{Number}
use Rattle.curve.specs.declared.SampleList.{SampleList}
use Rattle.curve.specs.declared.ListRecord.{ListRecord as CodeRecord}
use Rattle.curve.specs.declared.Spot.{Spot}
use Rattle.curve.specs.declared.ScalarCurve.{ScalarCurve}
use Rattle.curve.specs.Curve.{ListRecord, counted_from, samples, sample_count, stored, number_bytes, number_of, Pair, pair_of, firsts, pair_at, index, between, sample_list, sample_at, Recorded, listed, recorded}
use Rattle.curve.specs.CurveCode.{spot_at, on_value, spot_of, SpotIn, format_means, list_means, list_record_means, values_in, curve_in, scalar_curve, pair_curve, InsideList, Inside, InsideOf}
use Rattle.curve.proofs.IndexLaws.{index_rest}

-- ---- the values of a list that stands in a section

pub value_count : {A : Type 0} (value : Fix → List ℕ → A) (s : List ℕ) (l : SampleList) (number : Number) → length (values_in value s l number) ≡ l.length
value_count value s l number = view-length l.size (value (format_means number)) l.length (drop l.place s)

-- a number does not see past its bytes
pub number_take : (f : Fix) (size : ℕ) (bs : List ℕ) → number_bytes f ≤ size → number_of f (take size bs) ≡ number_of f bs
number_take f size bs h = ap (λ (x : List ℕ). fixed f (little x)) (take-take (number_bytes f) size bs h)

-- nor does a pair
pub pair_take : (f : Fix) (size : ℕ) (bs : List ℕ) → number_bytes f * 2 ≤ size → pair_of f (take size bs) ≡ pair_of f bs
pair_take f size bs h =
    ap (λ (x : Float). record { first = x; second = number_of f (drop (number_bytes f) (take size bs)) }) (number_take f size bs (omega arith))
    ∙ ap (λ (x : List ℕ). record { first = number_of f bs; second = fixed f (little x) }) (take-drop-take (number_bytes f) (number_bytes f) size bs (omega arith))

-- value k is what stands there, where it does not see past its bytes
there : {A : Type 0} (value : Fix → List ℕ → A) (s : List ℕ) (l : SampleList) (number : Number) → ((bs : List ℕ) → value (format_means number) (take l.size bs) ≡ value (format_means number) bs)
    → (default : A) (k : ℕ) → k < l.length → (r : A) → r ≡ value (format_means number) (drop (l.place + l.size * k) s) → r ≡ get_or (values_in value s l number) k default
there value s l number taken default k h r e =
    e ∙ sym (view_there l.size (value (format_means number)) l.length k l.place s default h ∙ taken (drop (l.place + l.size * k) s))

pub value_there : (s : List ℕ) (l : SampleList) (number : Number) → InsideList s l number → (default : Float) (k : ℕ) → k < l.length
    → (r : Float) → r ≡ number_of (format_means number) (drop (l.place + l.size * k) s) → r ≡ get_or (values_in number_of s l number) k default
value_there s l number i = there number_of s l number (λ bs. number_take (format_means number) l.size bs i.wide)

pub pair_there : (s : List ℕ) (l : SampleList) (number : Number) → InsideOf 2 s (ScalarCurve.Samples l number) → (default : Pair) (k : ℕ) → k < l.length
    → (r : Pair) → r ≡ pair_of (format_means number) (drop (l.place + l.size * k) s) → r ≡ get_or (values_in pair_of s l number) k default
pair_there s l number i = there pair_of s l number (λ bs. pair_take (format_means number) l.size bs i.1)

-- ---- one curve, read for its numbers or for its pairs

-- the first numbers of the pairs are the numbers
pub first_numbers_lem : (s : List ℕ) (c : ScalarCurve) → firsts (pair_curve s c) ≡ scalar_curve s c
first_numbers_lem s ScalarCurve.None = refl
first_numbers_lem s (ScalarCurve.Constant place) = refl
first_numbers_lem s (ScalarCurve.Samples l number) = ap (samples (list_means l)) (view-map (λ (v : Pair). v.first) l.size (pair_of (format_means number)) l.length (drop l.place s))

-- whatever its values are read as, their count is one
pub same_count : {A B : Type 0} (f : Fix → List ℕ → A) (g : Fix → List ℕ → B) (s : List ℕ) (c : ScalarCurve) → sample_count (curve_in f s c) ≡ sample_count (curve_in g s c)
same_count f g s ScalarCurve.None = refl
same_count f g s (ScalarCurve.Constant place) = refl
same_count f g s (ScalarCurve.Samples l number) = value_count f s l number ∙ sym (value_count g s l number)

-- where some numbers of each value stand inside, the first do
pub first_inside : (n : ℕ) → 1 ≤ n → (s : List ℕ) (c : ScalarCurve) → InsideOf n s c → Inside s c
first_inside n h s ScalarCurve.None i = tt
first_inside n h s (ScalarCurve.Constant place) i = omega arith
first_inside n h s (ScalarCurve.Samples l number) i = i.0

-- ---- a list of values of any type, at a frame

-- value k is where a frame falls
pub on_value_in : (l : SampleList) (frame k : ℕ) → k < l.length → on_value k ≡ spot_of l frame → (p : Spot) → p ≡ on_value k → SpotIn l frame p
on_value_in l frame k h e p q = rw q (record { is = e; first = h; second = h; exact = λ _. refl })

-- it falls between start and end - 1
pub index_in : (l : SampleList) (frame : ℕ) → 1 ≤ l.length → l.length ≤ 65536 → l.start < frame → frame < l.end - 1 → l.end < 65536
    → (p : Spot) → p ≡ spot_at (index l.start l.end frame l.length) → p.lo ≤ p.hi → p.hi < l.length → SpotIn l frame p
index_in l frame N L a b E p q le h =
    record {
      is = q ∙ rw (lt-leb frame l.start a, lt-leb (l.end - 1) frame b) refl;
      first = omega arith;
      second = h;
      exact = subst (λ (x : Spot). x.lo ≡ x.hi → x.g ≡ f0) (sym q) (index_rest l.start l.end frame l.length a (omega arith) E N L);
    }

module _ {A : Type 0} (mixed : A → A → Float → A) (default : A) (r : ListRecord) (frame : ℕ) where
  empty : (vs : List A) → length vs ≡ 0 → default ≡ sample_at mixed default (samples r vs) frame
  unfolding sample_at
  empty [] h = refl
  empty (v ∷ vs) h = absurd (omega arith)

  not_empty : (vs : List A) → 1 ≤ length vs → sample_at mixed default (samples r vs) frame ≡ sample_list mixed default r vs frame
  unfolding sample_at
  not_empty [] h = absurd (omega arith)
  not_empty (v ∷ vs) h = refl

module _ {A : Type 0} (mixed : A → A → Float → A) (default : A) (l : SampleList) (values : List A) (count : length values ≡ l.length) (frame : ℕ) where
  abbrev sampled : A
  sampled = sample_at mixed default (samples (list_means l) values) frame

  pub sample_empty : l.length ≡ 0 → default ≡ sampled
  sample_empty h = empty mixed default (list_means l) frame values (count ∙ h)

  by_values : 1 ≤ l.length → sampled ≡ sample_list mixed default (list_means l) values frame
  by_values h = not_empty mixed default (list_means l) frame values (rw count h)

  -- the place and the value, by what the tests for the first and for the last say
  abbrev place_by : (first last : Bool) → Spot
  place_by first last = cond first (on_value 0) (cond last (on_value (l.length - 1)) (spot_at (index l.start l.end frame l.length)))

  abbrev value_by : (first last : Bool) → A
  value_by first last = cond first (get_or values 0 default) (cond last (get_or values (l.length - 1) default) (between mixed default values (index l.start l.end frame l.length)))

  by_tests : 1 ≤ l.length → sampled ≡ value_by (leb frame l.start) (leb (l.end - 1) frame)
  unfolding sample_list
  by_tests h = by_values h ∙ rw count refl

  -- at the places next to the frame
  module _ (h : 1 ≤ l.length) (p : Spot) (at : SpotIn l frame p) where
    abbrev mixed_at : Spot → A
    mixed_at x = mixed (get_or values x.lo default) (get_or values x.hi default) x.g

    -- one value, which is the same when it is mixed with itself
    pub sample_on : p.lo ≡ p.hi → (r : A) → mixed r r f0 ≡ r → r ≡ get_or values p.lo default → r ≡ sampled
    sample_on one r still e = go (leb frame l.start) (leb (l.end - 1) frame) at.is ∙ sym (by_tests h)
      where
        edge : (k : ℕ) → p ≡ on_value k → r ≡ get_or values k default
        edge k q = e ∙ ap (λ (x : Spot). get_or values x.lo default) q

        here : r ≡ mixed_at p
        here = sym still ∙ rw (at.exact one, sym one, sym e) refl

        go : (x y : Bool) → p ≡ place_by x y → r ≡ value_by x y
        go true y q = edge 0 q
        go false true q = edge (l.length - 1) q
        go false false q = unfold between in here ∙ ap mixed_at q

    -- two values
    pub sample_between : (p.lo ≡ p.hi → ⊥) → (lo hi r : A) → lo ≡ get_or values p.lo default → hi ≡ get_or values p.hi default → r ≡ mixed lo hi p.g → r ≡ sampled
    sample_between two lo hi r a b e = go (leb frame l.start) (leb (l.end - 1) frame) at.is ∙ sym (by_tests h)
      where
        edge : {X : Type 0} (k : ℕ) → p ≡ on_value k → X
        edge k q = absurd (two (ap (λ (x : Spot). x.lo) q ∙ sym (ap (λ (x : Spot). x.hi) q)))

        go : (x y : Bool) → p ≡ place_by x y → r ≡ value_by x y
        go true y q = edge 0 q
        go false true q = edge (l.length - 1) q
        go false false q = unfold between in e ∙ rw (a, b) (ap mixed_at q)

-- ---- one pair of those that a curve stores

module _ (s : List ℕ) (c known : ScalarCurve) (q : c ≡ known) (i : ℕ) where
  pub pair_past : length (stored (pair_curve s known)) ≤ i → denied 9 ≡ pair_at (pair_curve s c) i
  pair_past h = rw (q, le-ltb i (length (stored (pair_curve s known))) h) refl

  pub pair_found : i < length (stored (pair_curve s known)) → (r : Pair) → ((default : Pair) → r ≡ get_or (stored (pair_curve s known)) i default) → answered r ≡ pair_at (pair_curve s c) i
  pair_found h r e = rw (q, lt-ltb i (length (stored (pair_curve s known))) h) (ap answered (e _))

-- ---- the record of a list

pub list_recorded : {A : Type 0} (r : CodeRecord) (l : SampleList) (entry : ℕ) (vs : List A) → list_record_means r ≡ counted_from entry (list_means l) → r.list.length ≡ l.length → length vs ≡ l.length
    → ◌≡◌ {A = Recorded A} (listed (list_record_means r) r.list.length) (recorded entry (samples (list_means l) vs))
unfolding recorded
list_recorded r l entry vs e p count = ap (λ (x : ListRecord). listed x r.list.length) e ∙ ap (listed (counted_from entry (list_means l))) (p ∙ sym count)
