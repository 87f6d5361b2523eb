-- A float's bits and its whole part. Assumes nothing.
use mathlib.Core.Path.{◌≡◌, refl, sym, ap, ◌∙◌, subst}
use mathlib.Core.Bool.{Bool, true, false, not, cond}
use Prim.Native.Nat.{ℕ, zero, suc, ◌+◌, ◌-◌, ◌*◌, ◌/◌, ◌%◌, ◌^◌, ◌≤◌, ◌<◌, zero-le}
use native.Mathlib.Nat.{div-le_self, div-mul-le_self, zero-mul, zero-mod, mul-pos, le_trans, le_of_eq, lt_of_le_of_lt, lt_of_lt_of_le, lt_irrefl, not-le_of_lt, mod-lt, mod-eq_of_lt, mul_assoc, mul_right_comm, mul-le-mul_right, mul-lt-mul_of_pos_right, eq_of_mul-eq-mul_right, lt_of_mul-lt-mul_right, mul-mod_left, div-add-mod', div-eq_of_lt}
use native.Mathlib.Omega.{arith}
use lib.Dec.{T, leb, eqb, nleb→lt, leb→le, lit≤, lit<}
use lib.Pow.{pow_pos, pow-add, pow_mono, shl_lt}
use borrow.Author.Tests.{eq-eqb, ne_eqb}
use lib.Bits.{bit_and, bit_or, and_mask, or_shifted, or_comm}
use lib.Ieee.{Float, nan, inf, fin, binary64, odd, of_fields, of_bits, to_bits, fits, is_nan}
use lib.Ieee.Bits.{of_bits-to_bits}
use lib.Ieee.Exact.{HasValue, odd_sign}
use lib.Ieee.Positive.{num, den, den_pos}
use lib.Ieee.Nearest.{div_same}
use Rattle.util.specs.Within.{Under}
use Rattle.curve.specs.Curve.{floor, ceil}

-- what the borrow checker knows of a float that is a parameter, as `c.well_formed.0.1`
pub held : {x : Bool} → x ≡ true → T x
held e = subst T (sym e) tt

-- the size, in units of the smallest float, that an exponent's field and the digits stand for
abbrev pub size_of : ℕ → ℕ → ℕ
size_of zero t = t
size_of (suc x) t = (2 ^ 52 + t) * 2 ^ x

same_sign : (v : Float) (s : Bool) (a c n : ℕ) → HasValue v s a c → Under v n → s ≡ false
same_sign nan s a c n h u = elim h [ ]
same_sign (inf _) s a c n h u = elim h [ ]
same_sign (fin t m e) s a c n h u = sym h.0 ∙ u.0

of_fields_lem : (s : Bool) (e t n : ℕ) → Under (of_fields binary64 s e t) n → HasValue (of_fields binary64 s e t) s (size_of e t) (2 ^ 1074)
unfolding of_fields
of_fields_lem s zero t n u = subst (λ (a : ℕ). HasValue (odd 53 s t 0 1074) s a (2 ^ 1074)) (one t) (odd_sign 53 s t 0 1074)
  where
    one : (t : ℕ) → t * 1 ≡ t
    one t = omega arith
of_fields_lem s (suc x) t n u = go (eqb (suc x) 2047) (eqb t 0) u
  where
    go : (a b : Bool) → Under (cond a (cond b (inf s) nan) (odd 53 s (2 ^ 52 + t) x 1074)) n
        → HasValue (cond a (cond b (inf s) nan) (odd 53 s (2 ^ 52 + t) x 1074)) s ((2 ^ 52 + t) * 2 ^ x) (2 ^ 1074)
    go true true v = absurd v
    go true false v = absurd v
    go false b v = odd_sign 53 s (2 ^ 52 + t) x 1074

value_of : (v : Float) (s : Bool) (a c : ℕ) → HasValue v s a c → num v * c ≡ a * den v
value_of nan s a c h = elim h [ ]
value_of (inf _) s a c h = elim h [ ]
value_of (fin t m e) s a c h = h.1

bound_of : (v : Float) (n : ℕ) → Under v n → num v < n * den v
bound_of nan n u = elim u [ ]
bound_of (inf _) n u = elim u [ ]
bound_of (fin t m e) n u = u.1

pub no_nan : (v : Float) (n : ℕ) → Under v n → T (not (is_nan v))
unfolding is_nan
no_nan nan n u = elim u [ ]
no_nan (inf _) n u = elim u [ ]
no_nan (fin t m e) n u = tt

not_set : (b : ℕ) → leb (2 ^ 63) b ≡ false → b < 2 ^ 63
not_set b h = nleb→lt (2 ^ 63) b (subst (λ (x : Bool). T (not x)) (sym h) tt)

module _ (x : Float) (ok : T (fits binary64 x)) (n : ℕ) (u : Under x n) where
  b : ℕ
  b = to_bits binary64 x

  is : x ≡ of_fields binary64 (leb (2 ^ 63) b) (b % 2 ^ 63 / 2 ^ 52) (b % 2 ^ 52)
  unfolding b
  is = unfold of_bits in sym (of_bits-to_bits binary64 x ok)

  val : HasValue x (leb (2 ^ 63) b) (size_of (b % 2 ^ 63 / 2 ^ 52) (b % 2 ^ 52)) (2 ^ 1074)
  val =
      subst (λ (v : Float). HasValue v (leb (2 ^ 63) b) (size_of (b % 2 ^ 63 / 2 ^ 52) (b % 2 ^ 52)) (2 ^ 1074)) (sym is)
      (of_fields_lem (leb (2 ^ 63) b) (b % 2 ^ 63 / 2 ^ 52) (b % 2 ^ 52) n (subst (λ (v : Float). Under v n) is u))

  plain : b < 2 ^ 63
  plain = not_set b (same_sign x (leb (2 ^ 63) b) (size_of (b % 2 ^ 63 / 2 ^ 52) (b % 2 ^ 52)) (2 ^ 1074) n val u)

  pub units : num x * 2 ^ 1074 ≡ size_of (to_bits binary64 x / 2 ^ 52) (to_bits binary64 x % 2 ^ 52) * den x
  unfolding b
  units =
      value_of x (leb (2 ^ 63) b) _ (2 ^ 1074) val
      ∙ ap (λ (z : ℕ). size_of (z / 2 ^ 52) (b % 2 ^ 52) * den x) (mod-eq_of_lt plain)

-- ---- the number by its exponent's field e and its digits t
small : (e t : ℕ) → t < 2 ^ 52 → e < 1023 → size_of e t < 2 ^ 1074
small zero t h l = lt_of_lt_of_le h (pow_mono {i = 52} {j = 1074} (lit≤ tt))
small (suc x) t h l = lt_of_lt_of_le (shl_lt 53 x (digits t h)) (pow_mono {i = 53 + x} {j = 1074} (omega arith))
  where
    digits : (t : ℕ) → t < 2 ^ 52 → 2 ^ 52 + t < 2 ^ 53
    digits t h = omega arith

places : (x : ℕ) → 1022 ≤ x → x ≤ 1074 → x + (1075 - suc x) ≡ 1074
places x h l = omega arith

large : (e t : ℕ) → 1023 ≤ e → e ≤ 1075 → size_of e t * 2 ^ (1075 - e) ≡ (2 ^ 52 + t) * 2 ^ 1074
large zero t h l = absurd (none h)
  where
    none : 1023 ≤ 0 → ⊥
    none h = omega arith
large (suc x) t h l =
    mul_assoc (2 ^ 52 + t) (2 ^ x) (2 ^ (1075 - suc x))
    ∙ ap (λ (z : ℕ). (2 ^ 52 + t) * z) (sym (pow-add 2 x (1075 - suc x)) ∙ ap (λ (z : ℕ). 2 ^ z) (places x (omega arith) (omega arith)))

-- below 2 ^ 16 the field is at most 1038
field_le : (e t : ℕ) → size_of e t < 65536 * 2 ^ 1074 → e ≤ 1038
field_le zero t h = zero-le
field_le (suc x) t h = go (leb (suc x) 1038) refl
  where
    below : 1038 < suc x → 2 ^ 1090 ≤ (2 ^ 52 + t) * 2 ^ x
    below k =
        le_trans (pow_mono {i = 1090} {j = 52 + x} (omega arith))
        (le_trans (le_of_eq (pow-add 2 52 x)) (mul-le-mul_right (2 ^ x) (more t)))
      where
        more : (t : ℕ) → 2 ^ 52 ≤ 2 ^ 52 + t
        more t = omega arith

    go : (y : Bool) → leb (suc x) 1038 ≡ y → suc x ≤ 1038
    go true e = leb→le (suc x) 1038 (subst T (sym e) tt)
    go false e = absurd (not-le_of_lt h (below (nleb→lt (suc x) 1038 (subst (λ (z : Bool). T (not z)) (sym e) tt))))

-- the code's significand
pub joined : (b : ℕ) → bit_or (bit_and b 4503599627370495) 4503599627370496 ≡ 2 ^ 52 + b % 2 ^ 52
joined b =
    ap (λ (z : ℕ). bit_or z 4503599627370496) (and_mask b 52)
    ∙ or_comm (b % 2 ^ 52) (2 ^ 52)
    ∙ or_shifted 1 52 (b % 2 ^ 52) (mod-lt b (pow_pos 52))

-- a fraction that is whole is whole however it is written
whole_same : (a b c d : ℕ) → 0 < b → a * d ≡ c * b → a % b ≡ 0 → c % d ≡ 0
whole_same a b c d B e z =
    let q = a / b in
    let p : q * b ≡ a = add0 (q * b) (a % b) a (div-add-mod' a b) z in
    let r : q * d ≡ c = eq_of_mul-eq-mul_right b B (q * d) c (mul_right_comm q d b ∙ ap (λ (y : ℕ). y * d) p ∙ e) in
    ap (λ (y : ℕ). y % d) (sym r) ∙ mul-mod_left q d
  where
    add0 : (x y s : ℕ) → x + y ≡ s → y ≡ 0 → x ≡ s
    add0 x y s h k = omega arith

-- ---- the float x, from its bits
abbrev pub expo : Float → ℕ
expo x = to_bits binary64 x / 2 ^ 52

abbrev pub frac : Float → ℕ
frac x = to_bits binary64 x % 2 ^ 52

frac-lt : (x : Float) → frac x < 2 ^ 52
frac-lt x = mod-lt (to_bits binary64 x) (pow_pos 52)

module _ (x : Float) (ok : T (fits binary64 x)) (u : Under x 65536) where
  size_lt : size_of (expo x) (frac x) < 65536 * 2 ^ 1074
  size_lt =
      lt_of_mul-lt-mul_right (den x)
      (subst (λ (z : ℕ). z < 65536 * 2 ^ 1074 * den x) (units x ok 65536 u)
      (subst (λ (z : ℕ). num x * 2 ^ 1074 < z) (mul_right_comm 65536 (den x) (2 ^ 1074)) (mul-lt-mul_of_pos_right (bound_of x 65536 u) (pow_pos 1074))))

  pub expo_le : expo x ≤ 1038
  expo_le = field_le (expo x) (frac x) size_lt

  floor_is : floor x ≡ size_of (expo x) (frac x) / 2 ^ 1074
  unfolding floor
  floor_is = div_same (num x) (den x) (size_of (expo x) (frac x)) (2 ^ 1074) (den_pos x) (pow_pos 1074) (units x ok 65536 u)

  pub floor_small : expo x < 1023 → floor x ≡ 0
  floor_small h = floor_is ∙ div-eq_of_lt (small (expo x) (frac x) (frac-lt x) h)

  pub floor_large : 1023 ≤ expo x → (2 ^ 52 + frac x) / 2 ^ (1075 - expo x) ≡ floor x
  floor_large h =
      sym (floor_is ∙ div_same (size_of (expo x) (frac x)) (2 ^ 1074) (2 ^ 52 + frac x) (2 ^ (1075 - expo x)) (pow_pos 1074) (pow_pos (1075 - expo x))
      (large (expo x) (frac x) h (le_trans expo_le (lit≤ tt))))

  pub floor_code : 1023 ≤ expo x → bit_or (bit_and (to_bits binary64 x) 4503599627370495) 4503599627370496 / 2 ^ (1075 - expo x) ≡ floor x
  floor_code h = ap (λ (z : ℕ). z / 2 ^ (1075 - expo x)) (joined (to_bits binary64 x)) ∙ floor_large h

  -- the float is whole exactly if its bits are
  whole_large : 1023 ≤ expo x → (2 ^ 52 + frac x) % 2 ^ (1075 - expo x) ≡ 0 → num x % den x ≡ 0
  whole_large h z =
      whole_same (size_of (expo x) (frac x)) (2 ^ 1074) (num x) (den x) (pow_pos 1074) (sym (units x ok 65536 u))
      (whole_same (2 ^ 52 + frac x) (2 ^ (1075 - expo x)) (size_of (expo x) (frac x)) (2 ^ 1074) (pow_pos (1075 - expo x)) (sym (large (expo x) (frac x) h (le_trans expo_le (lit≤ tt)))) z)

  large_whole : 1023 ≤ expo x → num x % den x ≡ 0 → (2 ^ 52 + frac x) % 2 ^ (1075 - expo x) ≡ 0
  large_whole h z =
      whole_same (size_of (expo x) (frac x)) (2 ^ 1074) (2 ^ 52 + frac x) (2 ^ (1075 - expo x)) (pow_pos 1074) (large (expo x) (frac x) h (le_trans expo_le (lit≤ tt)))
      (whole_same (num x) (den x) (size_of (expo x) (frac x)) (2 ^ 1074) (den_pos x) (units x ok 65536 u) z)

  pub ceil_whole : num x % den x ≡ 0 → floor x ≡ ceil x
  unfolding floor ceil
  ceil_whole z = simp (eq-eqb (num x % den x) 0 z) (plus0 (num x / den x))
    where
      plus0 : (q : ℕ) → q ≡ q + 0
      plus0 q = omega arith

  pub ceil_part : (num x % den x ≡ 0 → ⊥) → floor x + 1 ≡ ceil x
  unfolding floor ceil
  ceil_part z = simp (ne_eqb (num x % den x) 0 z)

  -- shifted down and up again, the significand is the same exactly if the float is whole
  cut_lt : (q s : ℕ) → q < 2 ^ 53 → q / 2 ^ s * 2 ^ s % 2 ^ 64 ≡ q / 2 ^ s * 2 ^ s
  cut_lt q s h = mod-eq_of_lt (lt_of_le_of_lt (div-mul-le_self q (2 ^ s)) (lt_of_lt_of_le h (lit≤ tt)))

  q_lt : 2 ^ 52 + frac x < 2 ^ 53
  q_lt = let h = frac-lt x in omega arith

  pub same_whole : 1023 ≤ expo x → (2 ^ 52 + frac x) / 2 ^ (1075 - expo x) * 2 ^ (1075 - expo x) % 2 ^ 64 ≡ 2 ^ 52 + frac x → num x % den x ≡ 0
  same_whole h e =
      let q = 2 ^ 52 + frac x in
      let s = 1075 - expo x in
      whole_large h (ap (λ (z : ℕ). z % 2 ^ s) (sym (sym (cut_lt q s q_lt) ∙ e)) ∙ mul-mod_left (q / 2 ^ s) (2 ^ s))

  pub whole_same' : 1023 ≤ expo x → num x % den x ≡ 0 → (2 ^ 52 + frac x) / 2 ^ (1075 - expo x) * 2 ^ (1075 - expo x) % 2 ^ 64 ≡ 2 ^ 52 + frac x
  whole_same' h z =
      let q = 2 ^ 52 + frac x in
      let s = 1075 - expo x in
      cut_lt q s q_lt ∙ no_rest (q / 2 ^ s * 2 ^ s) (q % 2 ^ s) q (div-add-mod' q (2 ^ s)) (large_whole h z)
    where
      no_rest : (a r q : ℕ) → a + r ≡ q → r ≡ 0 → a ≡ q
      no_rest a r q h k = omega arith

  pub ceil_zero : to_bits binary64 x ≡ 0 → ceil x ≡ 0
  ceil_zero e =
      let z : num x * 2 ^ 1074 ≡ 0 = units x ok 65536 u ∙ ap (λ (b : ℕ). size_of (b / 2 ^ 52) (b % 2 ^ 52) * den x) e ∙ zero-mul (den x) in
      let n : num x ≡ 0 = eq_of_mul-eq-mul_right (2 ^ 1074) (pow_pos 1074) (num x) 0 (z ∙ sym (zero-mul (2 ^ 1074))) in
      sym (ceil_whole (ap (λ (a : ℕ). a % den x) n ∙ zero-mod (den x))) ∙ floor_small (subst (λ (b : ℕ). b / 2 ^ 52 < 1023) (sym e) (lit< tt))

  some : (b : ℕ) → (b ≡ 0 → ⊥) → size_of (b / 2 ^ 52) (b % 2 ^ 52) ≡ 0 → ⊥
  some b h = go (b / 2 ^ 52) refl
    where
      go : (e : ℕ) → b / 2 ^ 52 ≡ e → size_of e (b % 2 ^ 52) ≡ 0 → ⊥
      go zero p z = omega arith
      go (suc k) p z = lt_irrefl 0 (subst (λ (y : ℕ). 0 < y) z (mul-pos (omega arith) (pow_pos k)))

  pub ceil_small : (to_bits binary64 x ≡ 0 → ⊥) → expo x < 1023 → 1 ≡ ceil x
  ceil_small h l =
      ap (λ (z : ℕ). z + 1) (sym (floor_small l))
      ∙ ceil_part (λ z. some (to_bits binary64 x) h
      (sym (mod-eq_of_lt (small (expo x) (frac x) (frac-lt x) l)) ∙ whole_same (num x) (den x) (size_of (expo x) (frac x)) (2 ^ 1074) (den_pos x) (units x ok 65536 u) z))

  -- as the code has it
  abbrev sig : ℕ
  sig = bit_or (bit_and (to_bits binary64 x) 4503599627370495) 4503599627370496

  abbrev cut : ℕ
  cut = sig / 2 ^ (1075 - expo x) * 2 ^ (1075 - expo x) % 2 ^ 64

  pub ceil_same : 1023 ≤ expo x → cut ≡ sig → sig / 2 ^ (1075 - expo x) ≡ ceil x
  ceil_same h e = floor_code h ∙ ceil_whole (same_whole h (rw (joined (to_bits binary64 x)) at e))

  pub ceil_differ : 1023 ≤ expo x → (cut ≡ sig → ⊥) → sig / 2 ^ (1075 - expo x) + 1 ≡ ceil x
  ceil_differ h e =
      ap (λ (z : ℕ). z + 1) (floor_code h)
      ∙ ceil_part (λ z. e (rw (joined (to_bits binary64 x)) (whole_same' h z)))

  pub next_fits : 1023 ≤ expo x → sig / 2 ^ (1075 - expo x) + 1 < 2 ^ 64
  next_fits h = lt_of_le_of_lt (suc_le (div-le_self sig (2 ^ (1075 - expo x)))) (subst (λ (z : ℕ). z + 1 < 2 ^ 64) (sym (joined (to_bits binary64 x))) (next (2 ^ 52 + frac x) q_lt))
    where
      suc_le : {a b : ℕ} → a ≤ b → a + 1 ≤ b + 1
      suc_le h = omega arith

      next : (q : ℕ) → q < 2 ^ 53 → q + 1 < 2 ^ 64
      next q h = omega arith
