-- The runs of the readers of rotations, by what the section holds. Assumes nothing.
use Prim.Native.Nat.{ℕ, ◌+◌, ◌*◌, max, ◌≤◌, ◌<◌}
use mathlib.Core.Bool.{Bool, true, false, cond}
use mathlib.Core.List.{List, [], ◌∷◌, map}
use mathlib.Core.Path.{◌≡◌, refl, sym, ap, subst, ◌∙◌}
use native.Mathlib.Nat.{mod-lt, le_refl}
use native.Mathlib.Omega.{arith}
use lib.ListN.{length, drop, get_or, length-map}
use lib.Pow.{pow_pos}
use Rattle.std.specs.Prelude.{Ok}
use Rattle.matrix.specs.declared.Mat3.{Mat3}
use Rattle.matrix.specs.Matrix.{identity3}
use Rattle.animation.specs.declared.Tables.{Tables}
use Rattle.animation.specs.declared.RotationCurve.{RotationCurve}
use Rattle.curve.specs.declared.SampleList.{SampleList}
use Rattle.util.specs.Bits.{bits, bit}
use Rattle.util.specs.View.{little, word_at, view}
use Rattle.util.specs.Reader.{Reader, done, Outcome, accepted, refused, ends, run, bind, each}
use Rattle.util.specs.ReaderCode.{reach_of}
use Rattle.util.proofs.Cut.{had_part, had, past, short}
use Rattle.util.proofs.ViewLaws.{view-take, view-length}
use Rattle.util.proofs.Each.{whole_of, refused_of, each_read}
use Rattle.util.proofs.Calls.{after, run_bind, accepted_first}
use Rattle.curve.specs.Curve.{Curve, constant, samples}
use Rattle.curve.specs.CurveCode.{list_means}
use Rattle.animation.specs.Animation.{start_of, end_of, values_of, list_of, pivot_record, basis_record, referred, reference, rotation_list, rotation}
use Rattle.animation.specs.AnimationCode.{code_list, reference_end, matrix_for, references, RotationReads}
use Rattle.animation.proofs.ScalarLaws.{rate_le}

-- the reach after two words side by side
pub both_words : (p m : ℕ) → max (max m (p + 2)) (p + 2 + 2) ≡ max m (p + 4)
both_words p m = omega arith

-- ---- references

-- how many a list has, and how many matrices they lead to
pub reference_count : (s : List ℕ) (l : SampleList) → length (references s l) ≡ l.length
reference_count s l = view-length 2 little l.length (drop l.place s)

pub matrix_count : (t : Tables) (s : List ℕ) (l : SampleList) → length (map (matrix_for t s) (references s l)) ≡ l.length
matrix_count t s l = length-map (references s l) (matrix_for t s) ∙ reference_count s l

module _ (t : Tables) (x : ℕ) where
  -- no record's end wraps
  pub end_small : t.pivot < 4294967296 → t.basis < 4294967296 → reference_end t x < 8589934592
  unfolding referred
  end_small p b = go (bit x 15)
    where
      go : (y : Bool) → (cond y (pivot_record (t.pivot + 6 * bits x 0 15)) (basis_record (t.basis + 10 * bits x 0 15))).place + (cond y (pivot_record (t.pivot + 6 * bits x 0 15)) (basis_record (t.basis + 10 * bits x 0 15))).size < 8589934592
      go true = let h = mod-lt x (pow_pos 15) in omega arith
      go false = let h = mod-lt x (pow_pos 15) in omega arith

  -- what bit 15 tells apart
  pub refers : (y : Bool) → y ≡ bit x 15 → (i : ℕ) → i ≡ bits x 0 15 → referred t.pivot t.basis x ≡ cond y (pivot_record (t.pivot + 6 * i)) (basis_record (t.basis + 10 * i))
  unfolding referred
  refers y q i g = rw (q, g) refl

pub reference_run : (t : Tables) (x : ℕ) (s : List ℕ) (m : ℕ) → run (reference t.pivot t.basis x) s m ≡ ends (reference_end t x) (length s) (accepted (max m (reference_end t x)) (matrix_for t s x))
unfolding reference run
reference_run t x s m = refl

module _ (t : Tables) (x : ℕ) (s : List ℕ) (m : ℕ) where
  -- an accepted reference is a record that stands in the section
  pub record_read : (k : ℕ) (v : Mat3) → run (reference t.pivot t.basis x) s m ≡ accepted k v → (v ≡ matrix_for t s x) × (reference_end t x ≤ length s)
  record_read k v e =
      let w = had_part (reference_end t x) (length s) (accepted (max m (reference_end t x)) (matrix_for t s x)) k v (sym (reference_run t x s m) ∙ e) in
      let q = w.1 in (cc, w.0)

-- ---- rotations

module _ (t : Tables) (s : List ℕ) where
  abbrev ref : ℕ → Reader Mat3
  ref x = reference t.pivot t.basis x

  -- the matrices of a list of references
  matrices : (xs : List ℕ) (m m' : ℕ) (ms : List Mat3) → run (each ref xs) s m ≡ accepted m' ms → ms ≡ map (matrix_for t s) xs
  unfolding each run
  matrices [] m m' ms e = cc
  matrices (x ∷ xs) m m' ms e =
      let w = accepted_first (ref x) (λ y. bind (each ref xs) (λ ys. done (y ∷ ys))) s m m' ms e in
      let v = accepted_first (each ref xs) (λ ys. done (w.1 ∷ ys)) s w.0 m' ms w.3 in
      let p = (record_read t x s m w.0 w.1 w.2).0 in
      let q = matrices xs w.0 v.0 v.1 v.2 in
      let o : ms ≡ w.1 ∷ v.1 = cc in
      o ∙ (ap (λ (y : Mat3). y ∷ v.1) p ∙ ap (λ (ys : List Mat3). matrix_for t s x ∷ ys) q)

  -- each record of a list of references that is accepted stands in the section
  records : (xs : List ℕ) (m m' : ℕ) (ms : List Mat3) → run (each ref xs) s m ≡ accepted m' ms → (i : ℕ) → i < length xs → reference_end t (get_or xs i 0) ≤ length s
  records xs m m' ms e i h =
      let w = (each_read ref s xs m m' ms e).1 i 0 identity3 h in
      (record_read t (get_or xs i 0) s 0 w.0 (get_or ms i identity3) w.1).1

module _ (t : Tables) (p m : ℕ) (s : List ℕ) where
  abbrev turned : Reader (Curve Mat3 × ℕ)
  turned = rotation t.pivot t.basis true p

  pub constant_rotation_short : length s < p + 4 → run turned s m ≡ refused 2
  unfolding run bind rotation
  constant_rotation_short h = past _ _ _ (short _ _ _ (omega arith))

  -- the reference, after both words
  constant_rotation : p + 4 ≤ length s → run turned s m ≡ after (run (reference t.pivot t.basis (word_at 2 s p)) s (max m (p + 4))) (λ j v. accepted j (constant v, p + 4))
  unfolding run bind rotation
  constant_rotation h =
      had _ _ _ _ (omega arith)
      (had _ _ _ _ (omega arith)
      (ap (λ (j : ℕ). run (bind (reference t.pivot t.basis (word_at 2 s p)) (λ v. done (constant v, p + 4))) s j) (both_words p m)
      ∙ run_bind (reference t.pivot t.basis (word_at 2 s p)) (λ v. done (constant v, p + 4)) s (max m (p + 4))))

  module _ (h : p + 4 ≤ length s) (x : ℕ) (e : x ≡ word_at 2 s p) (j : ℕ) (g : j ≡ max m (p + 4)) where
    here : run turned s m ≡ after (run (reference t.pivot t.basis x) s j) (λ j v. accepted j (constant v, p + 4))
    here =
        constant_rotation h
        ∙ (ap (λ (i : ℕ). after (run (reference t.pivot t.basis (word_at 2 s p)) s i) (λ j v. accepted j (constant v, p + 4))) (sym g)
        ∙ ap (λ (y : ℕ). after (run (reference t.pivot t.basis y) s j) (λ j v. accepted j (constant v, p + 4))) (sym e))

    pub constant_rotation_refused : (n : ℕ) → refused n ≡ reach_of (run (reference t.pivot t.basis x) s j) → run turned s m ≡ refused n
    unfolding after
    constant_rotation_refused n k = here ∙ ap (λ (o : Outcome Mat3). after o (λ j v. accepted j (constant v, p + 4))) (refused_of (run (reference t.pivot t.basis x) s j) n (sym k))

    pub constant_rotation_whole : (far : ℕ) → accepted far tt ≡ reach_of (run (reference t.pivot t.basis x) s j) → RotationReads turned t s m (p + 8) (Ok (RotationCurve.Constant x, record { pos = p + 4; reach = far }))
    unfolding after
    constant_rotation_whole far k =
        let w = whole_of (run (reference t.pivot t.basis x) s j) far (sym k) in
        let v = record_read t x s j far w.0 w.1 in
        record {
          reads = here ∙ (ap (λ (o : Outcome Mat3). after o (λ j v. accepted j (constant v, p + 4))) w.1 ∙ ap (λ (y : Mat3). accepted far (constant y, p + 4)) v.0);
          holds = (v.1, omega arith);
        }

module _ (t : Tables) (w off next m : ℕ) (s : List ℕ) where
  abbrev turns : Reader (Curve Mat3 × ℕ)
  turns = rotation_list t.pivot t.basis w off next

  pub references_short : (l : SampleList) → l ≡ code_list w off 2 → length s < off + 2 * l.length → run turns s m ≡ refused 2
  unfolding run bind rotation_list
  references_short l q h = short _ _ _ (subst (λ (x : SampleList). length s < off + 2 * x.length) q h)

  -- the references, after the list
  abbrev after_list : Outcome (List Mat3) → Outcome (Curve Mat3 × ℕ)
  after_list o = after o (λ j ms. accepted j (samples (list_of w off 2) ms, next))

  abbrev followed : ℕ → ℕ → Outcome (List Mat3)
  followed n j = run (each (ref t s) (view 2 little n (drop off s))) s j

  rotation_list_lem : off + 2 * values_of w ≤ length s → run turns s m ≡ after_list (followed (values_of w) (max m (off + 2 * values_of w)))
  unfolding run bind rotation_list
  rotation_list_lem h =
      had _ _ _ _ h
      (rw (view-take 2 little (values_of w) (drop off s))
      (run_bind (each (ref t s) (view 2 little (values_of w) (drop off s))) (λ ms. done (samples (list_of w off 2) ms, next)) s (max m (off + 2 * values_of w))))

  module _ (l : SampleList) (q : l ≡ code_list w off 2) (h : off + 2 * l.length ≤ length s) (j : ℕ) (g : j ≡ max m (off + 2 * l.length)) where
    count : l.length ≡ values_of w
    count = ap (λ (x : SampleList). x.length) q

    there : run turns s m ≡ after_list (followed l.length j)
    there =
        rotation_list_lem (subst (λ (n : ℕ). off + 2 * n ≤ length s) count h)
        ∙ (ap (λ (n : ℕ). after_list (followed n (max m (off + 2 * n)))) (sym count)
        ∙ ap (λ (i : ℕ). after_list (followed l.length i)) (sym g))

    pub references_refused : (n : ℕ) → refused n ≡ reach_of (followed l.length j) → run turns s m ≡ refused n
    unfolding after
    references_refused n k = there ∙ ap after_list (refused_of (followed l.length j) n (sym k))

    pub references_whole : start_of w < end_of w → (far : ℕ) → accepted far tt ≡ reach_of (followed l.length j) → RotationReads turns t s m next (Ok (RotationCurve.Samples l, record { pos = next; reach = far }))
    unfolding after
    references_whole f far k =
        let v = whole_of (followed l.length j) far (sym k) in
        let ms = matrices t s (view 2 little l.length (drop off s)) _ _ _ v.1 in
        let place : off ≡ l.place = ap (λ (x : SampleList). x.place) (sym q) in
        record {
          reads =
              there
              ∙ (ap after_list v.1
              ∙ (ap (λ (y : List Mat3). accepted far (samples (list_of w off 2) y, next)) ms
              ∙ (ap (λ (x : SampleList). accepted far (samples (list_means x) (map (matrix_for t s) (view 2 little l.length (drop off s))), next)) (sym q)
              ∙ ap (λ (o : ℕ). accepted far (samples (list_means l) (map (matrix_for t s) (view 2 little l.length (drop o s))), next)) place)));
          holds = (
            record {
              room = subst (λ (o : ℕ). o + 2 * l.length ≤ length s) place h;
              ordered = subst (λ (x : SampleList). x.start < x.end) (sym q) f;
              rated = subst (λ (x : SampleList). x.rate ≤ 3) (sym q) (rate_le w);
              records = λ i i<n. subst (λ (o : ℕ). reference_end t (get_or (view 2 little l.length (drop o s)) i 0) ≤ length s) place (records t s (view 2 little l.length (drop off s)) _ _ _ v.1 i (subst (λ (n : ℕ). i < n) (sym (view-length 2 little l.length (drop off s))) i<n));
            },
            le_refl next,
          );
        }
