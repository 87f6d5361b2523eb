-- The runs of the readers of objects and of the entry, by what the section holds. Assumes nothing.
use Prim.Native.Nat.{ℕ, ◌+◌, ◌*◌, max, ◌≤◌, ◌<◌}
use mathlib.Core.Bool.{Bool, true, false, not, cond}
use mathlib.Core.List.{List}
use mathlib.Core.Path.{◌≡◌, refl, sym, ap, ◌∙◌}
use native.Mathlib.Omega.{arith}
use borrow.Author.Tests.{le-leb, lt-leb, eq-eqb, ne_eqb}
use lib.Dec.{eqb, leb, lit≤}
use lib.ListN.{length, take, drop}
use Rattle.animation.specs.declared.Tables.{Tables}
use Rattle.animation.specs.declared.TRSCurves.{TRSCurves}
use Rattle.animation.specs.declared.Triple.{Triple as CodeTriple}
use Rattle.animation.specs.declared.AxisCurves.{AxisCurves}
use Rattle.util.specs.View.{little, word_at, view, same}
use Rattle.util.specs.Bits.{bit}
use Rattle.util.specs.Reader.{Reader, done, Outcome, accepted, refused, run, bind, each, unless}
use Rattle.util.specs.ReaderCode.{tally_of}
use Rattle.util.specs.Sums.{total}
use Rattle.util.proofs.Cut.{had, past, short, no_further}
use Rattle.util.proofs.ViewLaws.{view-take, view-length}
use Rattle.util.proofs.Each.{counted_of, uncounted_of, from_zero, each_read}
use Rattle.util.proofs.Calls.{after, run_bind}
use Rattle.curve.proofs.SampleLaws.{first_numbers_lem, first_inside}
use Rattle.animation.specs.Animation.{Object, still_object, Triple, translation, scale, axes_of, first_numbers, sampled_of, numbers_of, animated, object, object_samples, Animation, animation_stamp, most_objects, animation}
use Rattle.animation.specs.AnimationCode.{triple_means, triple_curves, InsideTriple, axis_curves, InsideAxes, object_curves, InsideObject, CountedObject, still_curves, curves_of, tables_at, objects_at, WholeAnimation}
use Rattle.animation.proofs.RotationLaws.{both_words}

-- ---- an object: its flags and two bytes, then what the flags say

module _ (pivot basis p m : ℕ) (s : List ℕ) where
  pub object_short : length s < p + 4 → run (object pivot basis p) s m ≡ refused 2
  unfolding run bind object
  object_short h = past _ _ _ (short _ _ _ (omega arith))

  abbrev by : Bool → ℕ → Reader Object
  by b flags = cond b (done still_object) (animated pivot basis flags (p + 4))

  flags_read : p + 4 ≤ length s → run (object pivot basis p) s m ≡ run (by (bit (word_at 2 s p) 0) (word_at 2 s p)) s (max m (p + 4))
  unfolding run bind object
  flags_read h =
      had _ _ _ _ (omega arith) (had _ _ _ _ (omega arith) (ap (run (by (bit (word_at 2 s p) 0) (word_at 2 s p)) s) (both_words p m)))

  pub by_flags : p + 4 ≤ length s → (flags : ℕ) → flags ≡ word_at 2 s p → (far : ℕ) → far ≡ max m (p + 4) → (b : Bool) → b ≡ bit flags 0 → run (object pivot basis p) s m ≡ run (by b flags) s far
  by_flags h flags e far g b q =
      flags_read h
      ∙ (ap (run (by (bit (word_at 2 s p) 0) (word_at 2 s p)) s) (sym g)
      ∙ (ap (λ (x : ℕ). run (by (bit x 0) x) s far) (sym e)
      ∙ ap (λ (x : Bool). run (by x flags) s far) (sym q)))

-- the curves of an object that nothing animates stand, and have no values
pub still_counted : {r : ℕ} (t : Tables) (s : List ℕ) → CountedObject t s (record { reach = r; samples = 0; curves = still_curves })
still_counted t s = record { inside = record { trans = record { x = tt; y = tt; z = tt }; rotation = tt; scale = record { x = tt; y = tt; z = tt } }; samples = refl }

-- ---- the entry

module _ (s : List ℕ) where
  pub header_short : length s < 20 → run animation s 0 ≡ refused 2
  unfolding run bind animation
  header_short h = past _ _ _ (past _ _ _ (past _ _ _ (past _ _ _ (past _ _ _ (short _ _ _ h)))))

  module _ (n : ℕ) (e : n ≡ word_at 2 s 6) where
    pub offsets_short : length s < 20 + 2 * n → run animation s 0 ≡ refused 2
    unfolding run bind animation
    offsets_short h = rw (sym e) (past _ _ _ (past _ _ _ (past _ _ _ (past _ _ _ (past _ _ _ (past _ _ _ (short _ _ _ h)))))))

    module _ (h : 20 + 2 * n ≤ length s) where
      -- the tests, after the header
      abbrev tested : Bool → Bool → Bool → Reader Animation
      tested b c d = bind (unless b 5) (λ _. bind (unless c 6) (λ _. bind (unless d 12) (λ _. bind (objects_at s n) (λ os. done (record { frames = word_at 2 s 4; objects = os })))))

      header_read : run animation s 0 ≡ run (tested (same 4 (take 4 s) animation_stamp) (not (eqb (word_at 2 s 4) 0)) (leb n most_objects)) s (20 + 2 * n)
      unfolding run bind animation
      header_read =
          rw (sym e, view-take 2 little n (drop 20 s))
          (had _ _ _ _ (omega arith) (had _ _ _ _ (omega arith) (had _ _ _ _ (omega arith) (had _ _ _ _ (omega arith) (had _ _ _ _ (omega arith) (had _ _ _ _ (omega arith) (had _ _ _ _ h
          (ap (run (tested (same 4 (take 4 s) animation_stamp) (not (eqb (word_at 2 s 4) 0)) (leb n most_objects)) s) (reach n)))))))))
        where
          reach : (n : ℕ) → max 20 (20 + 2 * n) ≡ 20 + 2 * n
          reach n = omega arith

      module _ (b : Bool) (q : b ≡ same 4 (take 4 s) animation_stamp) where
        pub wrong_stamp : b ≡ false → run animation s 0 ≡ refused 5
        unfolding run bind unless
        wrong_stamp k = header_read ∙ rw (sym q ∙ k) refl

        module _ (k : b ≡ true) (f : ℕ) (g : f ≡ word_at 2 s 4) where
          pub no_frames : f ≡ 0 → run animation s 0 ≡ refused 6
          unfolding run bind unless
          no_frames z = header_read ∙ rw (sym q ∙ k, eq-eqb (word_at 2 s 4) 0 (sym g ∙ z)) refl

          module _ (z : f ≡ 0 → ⊥) where
            pub many_objects : most_objects < n → run animation s 0 ≡ refused 12
            unfolding run bind unless
            many_objects l = header_read ∙ rw (sym q ∙ k, ne_eqb (word_at 2 s 4) 0 (λ y. z (g ∙ y)), lt-leb n most_objects l) refl

            module _ (l : n ≤ most_objects) (t : Tables) (et : t ≡ tables_at s) where
              abbrev all : Outcome (List Object)
              all = run (objects_at s n) s (20 + 2 * n)

              abbrev entry : Outcome (List Object) → Outcome Animation
              entry o = after o (λ j os. accepted j (record { frames = word_at 2 s 4; objects = os }))

              few_objects : run animation s 0 ≡ entry all
              unfolding run bind unless
              few_objects =
                  header_read
                  ∙ rw (sym q ∙ k, ne_eqb (word_at 2 s 4) 0 (λ y. z (g ∙ y)), le-leb n most_objects l) (run_bind (objects_at s n) (λ os. done (record { frames = word_at 2 s 4; objects = os })) s (20 + 2 * n))

              -- what the code counts of the objects, with its tables
              abbrev counted : Tables → Outcome ℕ
              counted x = tally_of (total object_samples) (run (each (object x.pivot x.basis) (view 2 little n (drop 20 s))) s (20 + 2 * n))

              followed : {r : Outcome ℕ} → r ≡ counted t → r ≡ tally_of (total object_samples) all
              followed w = w ∙ ap counted et

              pub objects_refused : (c : ℕ) → refused c ≡ counted t → run animation s 0 ≡ refused c
              unfolding after
              objects_refused c x = few_objects ∙ ap entry (uncounted_of _ all c (sym (followed x)))

              pub objects_whole : (far samples : ℕ) → accepted far samples ≡ counted t → WholeAnimation s (record { frames = f; objects = n; tables = t; reach = far; samples = samples })
              unfolding after
              objects_whole far samples x =
                  let o = counted_of (total object_samples) all far samples (sym (followed x)) in
                  record {
                    held = record { frames = word_at 2 s 4; objects = o.0 };
                    reads = few_objects ∙ ap entry o.1;
                    frames = sym g;
                    count = (each_read (object (word_at 4 s 12) (word_at 4 s 16)) s (view 2 little n (drop 20 s)) (20 + 2 * n) far o.0 o.1).0 ∙ view-length 2 little n (drop 20 s);
                    samples = o.2;
                    tables = et;
                    room = h;
                    objects = from_zero (objects_at s n) s (20 + 2 * n) far o.0 o.1;
                    inside = no_further (objects_at s n) s (20 + 2 * n) far o.0 o.1 h;
                  }

-- ---- an object's triples

-- sampling sees the first numbers: they stand inside ..
first_axes : (t : Triple) → 1 ≤ numbers_of t → (s : List ℕ) (a : AxisCurves) → InsideTriple t s a → InsideAxes s a
first_axes t h s a i = record { x = first_inside (numbers_of t) h s a.x i.x; y = first_inside (numbers_of t) h s a.y i.y; z = first_inside (numbers_of t) h s a.z i.z }

-- .. and are the same numbers, whether read by themselves or taken of the pairs
pub first_of_axes : (s : List ℕ) (a : AxisCurves) → first_numbers (triple_curves scale s a) ≡ axis_curves s a
first_of_axes s a = rw (first_numbers_lem s a.x, first_numbers_lem s a.y, first_numbers_lem s a.z) refl

module _ (t : Tables) (s : List ℕ) (c : TRSCurves) where
  pub triple_inside : InsideObject t s c → (which : CodeTriple) → InsideAxes s (curves_of which c)
  triple_inside h CodeTriple.Translation = first_axes translation (lit≤ tt) s c.trans h.trans
  triple_inside h CodeTriple.Scale = first_axes scale (lit≤ tt) s c.scale h.scale

  pub triple_axes : (which : CodeTriple) → sampled_of (triple_means which) (axes_of (triple_means which) (object_curves t s c)) ≡ axis_curves s (curves_of which c)
  triple_axes CodeTriple.Translation = refl
  triple_axes CodeTriple.Scale = first_of_axes s c.scale
