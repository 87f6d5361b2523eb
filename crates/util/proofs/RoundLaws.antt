-- The sign and the order of what `round` gives, and a quotient as one rounding. Assumes nothing.
use Prim.Native.Nat.{ℕ, zero, suc, ◌+◌, ◌*◌, ◌^◌, ◌≤◌, ◌<◌}
use mathlib.Core.Bool.{Bool, true, false, not, cond, ◌&&◌, ◌||◌, true≢false}
use mathlib.Core.Path.{◌≡◌, refl, sym, ap, subst, ◌∙◌}
use native.Mathlib.Nat.{lt_irrefl, zero-mul, mul-one, mul_comm, mul_assoc, mul_left_comm, mul-pos}
use native.Mathlib.Omega.{arith}
use borrow.Author.Tests.{ltb-false, eqb-true, eq-eqb, ne_eqb}
use lib.Dec.{T, ltb, eqb}
use lib.Ieee.{Float, nan, inf, fin, Format, binary64, prec, emax, low, up, down, unlike, odd, units, round, neg, div, le}
use lib.Ieee.Exact.{HasValue}
use lib.Ieee.Fits.{down_pos}
use lib.Ieee.Order.{round_mono}
use lib.Ieee.Scale.{round_same}

neg_odd : (d : ℕ) (s : Bool) (q k l : ℕ) → neg (odd d s q k l) ≡ odd d (not s) q k l
unfolding neg odd
neg_odd d s zero k l = refl
neg_odd d s (suc q) k l = refl

neg_units : (f : Format) (s : Bool) (q k : ℕ) → neg (units f s q k) ≡ units f (not s) q k
unfolding neg units
neg_units f s q k = go (ltb (q * 2 ^ k) (2 ^ (low f + suc (emax f))))
  where
    go : (b : Bool) → neg (cond b (odd (suc (prec f)) s q k (low f)) (inf s)) ≡ cond b (odd (suc (prec f)) (not s) q k (low f)) (inf (not s))
    go true = neg_odd (suc (prec f)) s q k (low f)
    go false = refl

pub neg_round : (f : Format) (s : Bool) (n d : ℕ) → neg (round f s n d) ≡ round f (not s) n d
unfolding round
neg_round f s n d = neg_units f s _ _

-- the sign of what `round` gives
abbrev pub Signed : Float → Bool → Type 0
Signed nan s = ⊥
Signed (inf t) s = t ≡ s
Signed (fin t m e) s = t ≡ s

sign_odd : (d : ℕ) (s : Bool) (q k l : ℕ) → Signed (odd d s q k l) s
unfolding odd
sign_odd d s zero k l = refl
sign_odd d s (suc q) k l = refl

sign_units : (f : Format) (s : Bool) (q k : ℕ) → Signed (units f s q k) s
unfolding units
sign_units f s q k = go (ltb (q * 2 ^ k) (2 ^ (low f + suc (emax f))))
  where
    go : (b : Bool) → Signed (cond b (odd (suc (prec f)) s q k (low f)) (inf s)) s
    go true = sign_odd (suc (prec f)) s q k (low f)
    go false = refl

pub sign_round : (f : Format) (s : Bool) (a c : ℕ) → Signed (round f s a c) s
unfolding round
sign_round f s a c = sign_units f s _ _

-- ---- the order

-- a negative number is at most a positive one
at_most : (a b : ℕ) → ltb 0 (a + b) || (eqb a b && eqb a 0) ≡ true
at_most a b = go (ltb 0 (a + b)) refl
  where
    go : (t : Bool) → ltb 0 (a + b) ≡ t → t || (eqb a b && eqb a 0) ≡ true
    go true e = refl
    go false e = let h : a + b ≤ 0 = ltb-false 0 (a + b) e in simp (eq-eqb a b (omega arith), eq-eqb a 0 (omega arith))

pub apart : (x y : Float) → Signed x true → Signed y false → le x y ≡ true
unfolding le
apart nan y p q = elim p [ ]
apart (inf s) nan p q = elim q [ ]
apart (fin s m e) nan p q = elim q [ ]
apart (inf s) (inf t) p q = rw (p, q)
apart (inf s) (fin t n d) p q = rw p
apart (fin s m e) (inf t) p q = rw q
apart (fin s m e) (fin t n d) p q = rw (p, q) (at_most (m * up e * down d) (n * up d * down e))

-- of two without a sign the lesser is the greater once both are negated
swapped : (a b : ℕ) → T (ltb a b || (eqb a b && true)) → ltb a b || (eqb b a && true) ≡ true
swapped a b t = go (ltb a b) (eqb a b) refl t
  where
    go : (u v : Bool) → eqb a b ≡ v → T (u || (v && true)) → u || (eqb b a && true) ≡ true
    go true v e t = refl
    go false true e t = simp (eq-eqb b a (sym (eqb-true a b e)))
    go false false e t = absurd t

turned : (x y : Float) → Signed x false → Signed y false → T (le x y) → le (neg y) (neg x) ≡ true
unfolding le neg
turned nan y p q h = elim p [ ]
turned (inf s) nan p q h = elim q [ ]
turned (fin s m e) nan p q h = elim q [ ]
turned (inf s) (inf t) p q h = rw (p, q)
turned (inf s) (fin t n d) p q h = absurd (rw p at h)
turned (fin s m e) (inf t) p q h = rw q
turned (fin s m e) (fin t n d) p q h = rw (p, q) (swapped (m * up e * down d) (n * up d * down e) (rw (p, q) at h))

-- of two fractions the larger, with a sign, rounds to a value that is no larger
pub round_falls : (f : Format) (a b c d : ℕ) → 0 < b → 0 < d → a * d ≤ c * b → le (round f true c d) (round f true a b) ≡ true
round_falls f a b c d B D h =
    rw (← neg_round f false c d, ← neg_round f false a b)
    (turned (round f false a b) (round f false c d) (sign_round f false a b) (sign_round f false c d) (round_mono f a b c d B D h))

-- ---- a quotient

pub unlike_false : (s : Bool) → unlike s false ≡ s
unlike_false true = refl
unlike_false false = refl

-- a whole number over another is one rounding
pub quotient : (x y : Float) (s : Bool) (a b : ℕ) → HasValue x s a 1 → HasValue y false b 1 → 0 < b → div binary64 x y ≡ round binary64 s a b
unfolding div
quotient nan y s a b v w B = elim v [ ]
quotient (inf _) y s a b v w B = elim v [ ]
quotient (fin t m e) nan s a b v w B = elim w [ ]
quotient (fin t m e) (inf _) s a b v w B = elim w [ ]
quotient (fin t m e) (fin true n d) s a b v w B = absurd (true≢false w.0)
quotient (fin t m e) (fin false n d) s a b v w B =
    let y_pos : 0 < n * up d = subst (λ (k : ℕ). 0 < k) (sym (sym (mul-one (n * up d)) ∙ w.1)) (mul-pos B (down_pos d)) in
    rw (ne_eqb n 0 (not_zero n (up d) y_pos), unlike_false t, v.0)
    (round_same binary64 s (m * up e * down d) (n * up d * down e) a b (mul-pos y_pos (down_pos e)) B (cross (m * up e) (n * up d) (down e) (down d) a b v.1 w.1))
  where
    not_zero : (n k : ℕ) → 0 < n * k → n ≡ 0 → ⊥
    not_zero n k h z = lt_irrefl 0 (subst (λ (x : ℕ). 0 < x) (ap (λ (x : ℕ). x * k) z ∙ zero-mul k) h)

    cross : (x y p q a b : ℕ) → x * 1 ≡ a * p → y * 1 ≡ b * q → x * q * b ≡ a * (y * p)
    cross x y p q a b v w =
        let v' : x ≡ a * p = sym (mul-one x) ∙ v in
        let w' : y ≡ b * q = sym (mul-one y) ∙ w in
        rw (v', w') (simp (mul_assoc, mul_comm, mul_left_comm))
