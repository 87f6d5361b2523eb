-- How large what is sampled of a curve is, by how large its values are. Assumes nothing.
use Prim.Native.Nat.{ℕ, ◌-◌, ◌^◌, ◌≤◌, ◌<◌}
use mathlib.Core.Bool.{Bool, true, false, cond}
use mathlib.Core.List.{List, [], ◌∷◌, map}
use mathlib.Core.Path.{◌≡◌, refl, sym, subst}
use native.Mathlib.Nat.{mul-le-mul_left}
use native.Mathlib.Omega.{arith}
use borrow.Author.Tests.{leb-false}
use lib.Dec.{leb, lit≤, lit<}
use lib.ListN.{length, length-map, get_or}
use lib.IntN.{pos}
use lib.Ieee.{Float, binary64}
use lib.Ieee.Fits.{of_int-fits}
use lib.Pow.{pow_pos}
use Rattle.util.specs.Fixed.{Fix, width}
use Rattle.util.proofs.All.{Each, each_get_d, Many}
use Rattle.util.proofs.WithinLaws.{within_whole, within_le, upto_within}
use Rattle.util.proofs.BelowLaws.{Below, Small, Mixed, below_zero, below_one, below_le, below_add, below_sub, below_mul, small_fixed}
use Rattle.matrix.specs.declared.Col3.{Col3}
use Rattle.matrix.specs.declared.Mat3.{Mat3}
use Rattle.matrix.specs.Matrix.{identity3}
use Rattle.matrix.proofs.MagnitudeLaws.{Three, Nine, three}
use Rattle.curve.specs.Curve.{ListRecord, FramesTold, Curve, none, constant, samples, sample_count, number_of, Pair, pair_of, firsts, floor, ceil, of_whole, index, mix, mix_col, mix_mat, between, sample_list, sample_at, RecordTells, recorded}
use Rattle.curve.proofs.IndexLaws.{index_held, index_upto, floor-le}

-- g is the fraction, and its bound is crude
pub mix_small : (lo hi g : Float) → Small lo → Small hi → Below 17 g → Mixed (mix lo hi g)
unfolding mix
mix_small lo hi g x y z = below_add 83 (below_mul x (below_sub below_one z (lit≤ tt)) (lit≤ tt)) (below_mul y z (lit≤ tt)) (lit≤ tt) (lit≤ tt) (lit≤ tt)

mix_col_lem : (lo hi : Col3) (g : Float) → Three Small lo → Three Small hi → Below 17 g → Three Mixed (mix_col lo hi g)
mix_col_lem lo hi g p q z = three (mix_small _ _ g p.x q.x z) (mix_small _ _ g p.y q.y z) (mix_small _ _ g p.z q.z z)

pub mix_mat_small : (lo hi : Mat3) (g : Float) → Nine Small lo → Nine Small hi → Below 17 g → Nine Mixed (mix_mat lo hi g)
unfolding mix_mat
mix_mat_small lo hi g p q z = record { c0 = mix_col_lem _ _ g p.c0 q.c0 z; c1 = mix_col_lem _ _ g p.c1 q.c1 z; c2 = mix_col_lem _ _ g p.c2 q.c2 z }

-- a list of a curve: its end has 16 bits, its record tells its frames, and P holds of each value
pub record SizedList {X : Type 0} (P : X → Type 0) (l : ListRecord) (vs : List X) : Type 0 where
  pub ends : l.end < 65536
  pub told : FramesTold l (length vs)
  pub values : Each P vs

-- it has no more values than frames
list_few : {X : Type 0} (P : X → Type 0) (l : ListRecord) (vs : List X) → SizedList P l vs → length vs < 65536
list_few P l vs h = let t = h.told in let n = mul-le-mul_left (length vs) (pow_pos l.rate) in omega (arith, h.ends, t.frames)

abbrev pub SizedCurve : {X : Type 0} → (X → Type 0) → Curve X → Type 0
SizedCurve P none = Unit {0}
SizedCurve P (constant v) = P v
SizedCurve P (samples l vs) = SizedList P l vs

-- a pair of small numbers
abbrev pub SmallPair : Pair → Type 0
SmallPair v = Small v.first × Small v.second

-- of a curve of such pairs the first numbers
pub firsts_sized : (c : Curve Pair) → SizedCurve SmallPair c → SizedCurve Small (firsts c)
firsts_sized none h = tt
firsts_sized (constant v) h = h.0
firsts_sized (samples l vs) h = record { ends = h.ends; told = rw (length-map vs (λ (v : Pair). v.first)) h.told; values = go vs h.values }
  where
    go : (vs : List Pair) → Each SmallPair vs → Each Small (map (λ v. v.first) vs)
    go [] h = tt
    go (v ∷ vs) h = (h.0.0, go vs h.1)

pub count_few : {X : Type 0} (P : X → Type 0) (c : Curve X) → SizedCurve P c → sample_count c < 65536
count_few P none h = lit< tt
count_few P (constant v) h = lit< tt
count_few P (samples l vs) h = list_few P l vs h

-- where P holds of the values, and Q of what is mixed of them, Q holds of each sample
module _ {X : Type 0} (P Q : X → Type 0) (mixed : X → X → Float → X) (kept : (v : X) → P v → Q v)
    (mixes : (lo hi : X) (g : Float) → P lo → P hi → Below 17 g → Q (mixed lo hi g)) (default : X) (p : P default) where
  list_sized : (l : ListRecord) (vs : List X) (frame : ℕ) → 1 ≤ length vs → SizedList P l vs → Q (sample_list mixed default l vs frame)
  unfolding sample_list between
  list_sized r vs frame N h = go (leb frame r.start) refl (leb (r.end - 1) frame) refl
    where
      i : Float
      i = index r.start r.end frame (length vs)

      at : (k : ℕ) → P (get_or vs k default)
      at k = each_get_d P vs default h.values p k

      go : (x : Bool) → leb frame r.start ≡ x → (y : Bool) → leb (r.end - 1) frame ≡ y → Q (cond x (get_or vs 0 default) (cond y (get_or vs (length vs - 1) default) (between mixed default vs i)))
      go true e y f = kept _ (at 0)
      go false e true f = kept _ (at (length vs - 1))
      go false e false f =
          let a : r.start < frame = leb-false frame r.start e in
          let b : frame < r.end - 1 = leb-false (r.end - 1) frame f in
          let n = list_few P r vs h in
          let u = index_upto r.start r.end frame (length vs) a (omega arith) h.ends N (omega arith) in
          let l : floor i ≤ length vs - 1 = floor-le i (length vs - 1) u in
          let v : Below 16 i = record { held = index_held r.start r.end frame (length vs); within = within_le i (length vs - 1) (2 ^ 16) (omega arith) (upto_within i (length vs - 1) u) } in
          let w : Below 16 (of_whole (floor i)) = record { held = of_int-fits binary64 (pos (floor i)); within = within_whole (floor i) (2 ^ 16) (omega arith) (lit≤ tt) } in
          mixes _ _ _ (at (floor i)) (at (ceil i)) (below_sub v w (lit≤ tt))

  pub sample_sized : (c : Curve X) → SizedCurve P c → (frame : ℕ) → Q (sample_at mixed default c frame)
  unfolding sample_at
  sample_sized none h frame = kept default p
  sample_sized (constant v) h frame = kept v h
  sample_sized (samples l []) h frame = kept default p
  sample_sized (samples l (v ∷ vs)) h frame = list_sized l (v ∷ vs) frame (omega arith) h

pub scalar_sized : (default : Float) → Small default → (c : Curve Float) → SizedCurve Small c → (frame : ℕ) → Mixed (sample_at mix default c frame)
scalar_sized = sample_sized Small Mixed mix (λ v h. below_le (lit≤ tt) h) mix_small

pub rotation_sized : (c : Curve Mat3) → SizedCurve (Nine Small) c → (frame : ℕ) → Nine Mixed (sample_at mix_mat identity3 c frame)
rotation_sized = sample_sized (Nine Small) (Nine Mixed) mix_mat (λ m h. record { c0 = more h.c0; c1 = more h.c1; c2 = more h.c2 }) mix_mat_small identity3
    (record { c0 = three below_one below_zero below_zero; c1 = three below_zero below_one below_zero; c2 = three below_zero below_zero below_one })
  where
    more : {c : Col3} → Three Small c → Three Mixed c
    more h = three (below_le (lit≤ tt) h.x) (below_le (lit≤ tt) h.y) (below_le (lit≤ tt) h.z)

-- a number of at most 32 bits
pub number_small : (f : Fix) → width f ≤ 32 → (bs : List ℕ) → Small (number_of f bs)
number_small f w bs = small_fixed f w _

pub pair_small : (f : Fix) → width f ≤ 32 → (bs : List ℕ) → SmallPair (pair_of f bs)
pair_small f w bs = (small_fixed f w _, small_fixed f w _)

-- a list of n values
pub sized : {X : Type 0} {P : X → Type 0} {l : ListRecord} {n : ℕ} (vs : List X) → l.end < 65536 → FramesTold l n → Many P n vs → SizedList P l vs
sized {l} vs e t h = record { ends = e; told = subst (FramesTold l) (sym h.0) t; values = h.1 }

-- ---- the record of a curve

pub recorded_tells : {X : Type 0} (P : X → Type 0) (entry : ℕ) (c : Curve X) → SizedCurve P c → RecordTells (recorded entry c)
unfolding recorded
recorded_tells P entry none h = tt
recorded_tells P entry (constant v) h = tt
recorded_tells P entry (samples l vs) h = let t = h.told in record { ordered = t.ordered; frames = t.frames; below = t.below }
