-- References that are followed in order are refused with 2 where one leads past the section, and else reach as far as the record that ends last:
-- so the one of the greatest number in the pivot data and the one in the basis data decide. Assumes nothing.
use Prim.Native.Nat.{ℕ, ◌+◌, ◌-◌, ◌*◌, ◌/◌, ◌%◌, ◌^◌, max, ◌≤◌, ◌<◌}
use mathlib.Core.Bool.{Bool, true, false, cond}
use mathlib.Core.List.{List, [], ◌∷◌}
use mathlib.Core.Logic.{⊎_elim}
use mathlib.Core.Path.{◌≡◌, refl, sym, ap, ap₂, ◌∙◌}
use native.Mathlib.Nat.{mul-le-mul_left}
use native.Mathlib.Numerals.{add-one}
use native.Mathlib.Omega.{arith}
use borrow.Author.Tests.{le-leb, lt-leb}
use lib.Dec.{leb}
use lib.ListN.{length, drop, drop_of_length-le}
use lib.Seq.{drop-cons}
use Rattle.util.specs.Bits.{bits, bit}
use Rattle.util.specs.View.{little, word_at, view}
use Rattle.util.specs.Reader.{Reader, done, Outcome, accepted, refused, pick, ends, run, bind, each}
use Rattle.std.specs.Prelude.{Result, Ok, Err}
use Rattle.util.specs.declared.refusal.Refusal.{Refusal}
use Rattle.util.specs.ReaderCode.{outcome, reached, reach_of}
use Rattle.util.proofs.Cut.{le_or_lt, had, short}
use Rattle.util.proofs.Calls.{after, run_bind, run_bind_as}
use Rattle.util.proofs.ViewLaws.{view-length, view_there}
use Rattle.matrix.specs.declared.Mat3.{Mat3}
use Rattle.animation.specs.declared.Tables.{Tables}
use Rattle.animation.specs.Animation.{referred, reference}
use Rattle.animation.specs.AnimationCode.{reference_end, matrix_for, ReachesTo, turned_over, greatest_of, marked_end, last_end}
use Rattle.animation.proofs.RotationLaws.{reference_run}

-- ---- how far a part reaches

abbrev reach_to : ℕ → ℕ → ℕ → Outcome (Unit {0})
reach_to e n m = cond (leb e n) (accepted (max m e) tt) (refused 2)

reach_short : (e n m : ℕ) → n < e → refused 2 ≡ reach_to e n m
reach_short e n m h = simp (lt-leb e n h) refl

reach_whole : (e n m far : ℕ) → far ≡ max m e → e ≤ n → accepted far tt ≡ reach_to e n m
reach_whole e n m far g h = simp (le-leb e n h) (ap (λ (j : ℕ). accepted j tt) g)

-- .. by what the code answers
code_reach : (e n m : ℕ) (x : Result ℕ Refusal) → ReachesTo e n m x → outcome reached x ≡ reach_to e n m
code_reach e n m (Ok far) h = reach_whole e n m far h.1 h.0
code_reach e n m (Err r) h = rw h.1 (reach_short e n m h.0)

part_reach : {A : Type 0} (e n m : ℕ) (a : A) → reach_of (ends e n (accepted (max m e) a)) ≡ reach_to e n m
unfolding ends
part_reach e n m a = go (leb e n)
  where
    go : (b : Bool) → reach_of (pick b (accepted (max m e) a)) ≡ cond b (accepted (max m e) tt) (refused 2)
    go true = refl
    go false = refl

-- one part after another reaches as far as the one that ends last
both_reach : (e f n m : ℕ) → e ≤ n → reach_to f n (max m e) ≡ reach_to (max e f) n m
both_reach e f n m h =
    ⊎_elim
    (λ l. sym (reach_whole f n (max m e) _ refl l) ∙ reach_whole (max e f) n m _ (omega arith) (omega arith))
    (λ l. sym (reach_short f n (max m e) l) ∙ reach_short (max e f) n m (omega arith))
    (le_or_lt f n)

-- ---- references followed in order: refused with 2 where the last record's end passes the section, else they reach as far as it

module _ (t : Tables) (s : List ℕ) where
  abbrev ref : ℕ → Reader Mat3
  ref x = reference t.pivot t.basis x

  -- of one reference
  pub one_reach : (x m e : ℕ) → e ≡ reference_end t x → (y : Result ℕ Refusal) → ReachesTo e (length s) m y → outcome reached y ≡ reach_of (run (ref x) s m)
  one_reach x m e q y h = code_reach e (length s) m y h ∙ ap (λ (k : ℕ). reach_to k (length s) m) q ∙ sym (ap reach_of (reference_run t x s m) ∙ part_reach (reference_end t x) (length s) m (matrix_for t s x))

  with_first : (v : Mat3) (o : Outcome (List Mat3)) → reach_of (after o (λ j ms. accepted j (v ∷ ms))) ≡ reach_of o
  unfolding after
  with_first v (accepted m ms) = refl
  with_first v (refused n) = refl

  followed : (xs : List ℕ) (m : ℕ) → reach_of (run (each ref xs) s m) ≡ reach_to (greatest_of (reference_end t) xs) (length s) m
  unfolding each run greatest_of after
  followed [] m = reach_whole 0 (length s) m m (omega arith) (omega arith)
  followed (x ∷ xs) m =
      let e = reference_end t x in
      let v = matrix_for t s x in
      let rest : Mat3 → Reader (List Mat3) = λ y. bind (each ref xs) (λ ys. done (y ∷ ys)) in
      ⊎_elim
      (λ l.
      ap reach_of (run_bind_as (ref x) rest s m (accepted (max m e) v) (reference_run t x s m ∙ had _ _ _ _ l refl) ∙ run_bind (each ref xs) (λ ys. done (v ∷ ys)) s (max m e))
      ∙ (with_first v (run (each ref xs) s (max m e)) ∙ (followed xs (max m e) ∙ both_reach e (greatest_of (reference_end t) xs) (length s) m l)))
      (λ l. ap reach_of (run_bind_as (ref x) rest s m (refused 2) (reference_run t x s m ∙ short _ _ _ l)) ∙ reach_short (max e (greatest_of (reference_end t) xs)) (length s) m (omega arith))
      (le_or_lt e (length s))

  -- .. of all of them
  pub all_reach : (xs : List ℕ) (m e : ℕ) → e ≡ greatest_of (reference_end t) xs → (y : Result ℕ Refusal) → ReachesTo e (length s) m y → outcome reached y ≡ reach_of (run (each ref xs) s m)
  all_reach xs m e q y h = code_reach e (length s) m y h ∙ ap (λ (k : ℕ). reach_to k (length s) m) q ∙ sym (followed xs m)

-- ---- the last record by the greatest references

-- bit 15 of a u16, and the bits below it
bit_clear : (y : ℕ) → y < 32768 → (bit y 15 ≡ false) × (bits y 0 15 ≡ y)
bit_clear y h = (let q : y / 2 ^ 15 % 2 ^ 1 ≡ 0 = omega arith in rw q refl, omega arith)

bit_set : (y : ℕ) → 32768 ≤ y → y < 65536 → (bit y 15 ≡ true) × (bits y 0 15 ≡ y - 32768)
bit_set y l h = (let q : y / 2 ^ 15 % 2 ^ 1 ≡ 1 = omega arith in rw q refl, omega arith)

-- where a record ends of the data at z, whose records have k bytes: that of the number below bit 15, where bit 15 is set
module _ (k z : ℕ) where
  abbrev numbered : ℕ → ℕ
  numbered y = cond (bit y 15) (z + k * bits y 0 15 + k) 0

  numbered_clear : (y : ℕ) → y < 32768 → numbered y ≡ 0
  numbered_clear y h = rw (bit_clear y h).0 refl

  numbered_set : (y : ℕ) → 32768 ≤ y → y < 65536 → numbered y ≡ z + k * (y - 32768) + k
  numbered_set y l h = let w = bit_set y l h in rw (w.0, w.1) refl

  -- a greater number ends no earlier
  numbered_le : (a b : ℕ) → a ≤ b → b < 65536 → numbered a ≤ numbered b
  numbered_le a b l h =
      ⊎_elim
      (λ g.
      let m : a - 32768 ≤ b - 32768 = omega arith in
      let q : k * (a - 32768) ≤ k * (b - 32768) = mul-le-mul_left k m in
      let d = numbered_set a g (omega arith) in
      let e = numbered_set b (omega arith) h in
      omega arith)
      (λ g. let d = numbered_clear a g in omega arith)
      (le_or_lt 32768 a)

  numbered_max : (a b : ℕ) → a < 65536 → b < 65536 → numbered (max a b) ≡ max (numbered a) (numbered b)
  numbered_max a b h g =
      ⊎_elim
      (λ (l : a ≤ b). let e : max a b ≡ b = omega arith in let w = numbered_le a b l g in let q : numbered b ≡ max (numbered a) (numbered b) = omega arith in ap numbered e ∙ q)
      (λ (l : b < a). let e : max a b ≡ a = omega arith in let m : b ≤ a = omega arith in let w = numbered_le b a m h in let q : numbered a ≡ max (numbered a) (numbered b) = omega arith in ap numbered e ∙ q)
      (le_or_lt a b)

module _ (t : Tables) where
  abbrev pivots : ℕ → ℕ
  pivots y = numbered 6 t.pivot y

  abbrev bases : ℕ → ℕ
  bases y = numbered 10 t.basis y

  end_set : (x : ℕ) → 32768 ≤ x → x < 65536 → reference_end t x ≡ pivots x
  unfolding referred
  end_set x l h = rw (bit_set x l h).0 refl

  end_clear : (x : ℕ) → x < 32768 → reference_end t x ≡ bases (turned_over x)
  unfolding referred
  end_clear x h =
      let w = bit_clear x h in
      let e : x ≡ turned_over x - 32768 = omega arith in
      rw w.0 (ap (λ (n : ℕ). t.basis + 10 * n + 10) (w.1 ∙ e) ∙ sym (numbered_set 10 t.basis (turned_over x) (omega arith) (omega arith)))

  -- a reference leads to one of the two
  one_end : (x : ℕ) → x < 65536 → reference_end t x ≡ max (pivots x) (bases (turned_over x))
  one_end x h =
      ⊎_elim
      (λ l. let e = end_set x l h in let z = numbered_clear 10 t.basis (turned_over x) (omega arith) in omega arith)
      (λ l. let e = end_clear x l in let z = numbered_clear 6 t.pivot x l in omega arith)
      (le_or_lt 32768 x)

  -- what the code asks of the greatest
  marked_is : (k z y x : ℕ) → y < 65536 → (32768 ≤ y → reference_end t x ≡ numbered k z y) → marked_end t y x ≡ numbered k z y
  marked_is k z y x h e =
      ⊎_elim
      (λ l. ap (λ (b : Bool). cond b (reference_end t x) 0) (bit_set y l h).0 ∙ e l)
      (λ l. ap (λ (b : Bool). cond b (reference_end t x) 0) (bit_clear y l).0 ∙ sym (numbered_clear k z y l))
      (le_or_lt 32768 y)

  last_is : (p q : ℕ) → p < 65536 → q < 65536 → last_end t (record { plain = p; turned = q }) ≡ max (pivots p) (bases q)
  last_is p q h g =
      let back : (l : 32768 ≤ q) → turned_over (turned_over q) ≡ q = λ l. omega arith in
      ap₂ max
      (marked_is 6 t.pivot p p h (λ l. end_set p l h))
      (marked_is 10 t.basis q (turned_over q) g (λ l. end_clear (turned_over q) (omega arith) ∙ ap bases (back l)))

  -- one reference more
  last_more : (p q x : ℕ) → p < 65536 → q < 65536 → x < 65536
      → last_end t (record { plain = max p x; turned = max q (turned_over x) }) ≡ max (last_end t (record { plain = p; turned = q })) (reference_end t x)
  last_more p q x h g l =
      last_is (max p x) (max q (turned_over x)) (omega arith) (omega arith)
      ∙ (ap₂ max (numbered_max 6 t.pivot p x h l) (numbered_max 10 t.basis q (turned_over x) g (omega arith))
      ∙ (swap (pivots p) (pivots x) (bases q) (bases (turned_over x))
      ∙ sym (ap₂ max (last_is p q h g) (one_end x l))))
    where
      swap : (a b c d : ℕ) → max (max a b) (max c d) ≡ max (max a c) (max b d)
      swap a b c d = omega arith

-- ---- the loop over n references at `at`

module _ (s : List ℕ) (at n : ℕ) where
  abbrev here : List ℕ
  here = view 2 little n (drop at s)

  -- what is left from reference i on, after references whose greatest are p and q: for every pair of tables
  abbrev pub Left : ℕ → ℕ → ℕ → Type 0
  Left i p q = (t : Tables) → max (last_end t (record { plain = p; turned = q })) (greatest_of (reference_end t) (drop i here)) ≡ greatest_of (reference_end t) here

  pub left_next : (i p q x : ℕ) → i < n → x ≡ word_at 2 s (at + 2 * i) → p < 65536 → q < 65536 → x < 65536 → Left i p q → Left (i + 1) (max p x) (max q (turned_over x))
  unfolding greatest_of
  left_next i p q x h e hp hq hx l t =
      let more = last_more t p q x hp hq hx in
      let first : greatest_of (reference_end t) (drop i here) ≡ max (reference_end t x) (greatest_of (reference_end t) (drop (i + 1) here)) =
      rw (drop-cons here i 0 (rw (view-length 2 little n (drop at s)) h), view_there 2 little n i at s 0 h, ← e, add-one i) refl in
      let all = l t in
      omega arith

  pub left_none : (i p q : ℕ) → n ≤ i → Left i p q → (t : Tables) → last_end t (record { plain = p; turned = q }) ≡ greatest_of (reference_end t) here
  unfolding greatest_of
  left_none i p q h l t =
      let none : greatest_of (reference_end t) (drop i here) ≡ 0 = rw (drop_of_length-le here {i = i} (rw (view-length 2 little n (drop at s)) h)) refl in
      let all = l t in
      omega arith
