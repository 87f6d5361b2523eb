-- Laws of words, read and written, and of `same`. Assumes nothing.
use Prim.Native.Nat.{ℕ, zero, suc, ◌+◌, ◌-◌, ◌*◌, ◌/◌, ◌%◌, ◌^◌, ◌≤◌, ◌<◌}
use mathlib.Core.Bool.{Bool, true, false, cond, false≢true}
use mathlib.Core.List.{List, [], ◌∷◌, ◌++◌, map}
use mathlib.Core.Path.{◌≡◌, refl, sym, ap, ◌∙◌}
use native.Mathlib.Nat.{mul-zero, mul-suc, add_comm, zero-add, suc-add, add-zero, pow-suc, mul-add, mul_right_comm, mul_comm, add_assoc}
use native.Mathlib.Omega.{arith}
use borrow.Author.Tests.{eqb-true, eqb-false, eq-eqb}
use lib.Dec.{eqb}
use Rattle.std.specs.Prelude.{◌≢◌}
use Rattle.std.specs.Bool.{MatchBool}
use Rattle.std.specs.Cmp.Lexicographic.{pointwise, told_text}
use Rattle.std.proofs.lemmas.Grind.{same_number_lists}
use lib.ListN.{length, set, take, drop, get_or}
use lib.Seq.{sets, drop-cons, drop-drop, take-take, take-nil, take-append-le}
use native.Mathlib.Numerals.{add-one}
use Rattle.util.proofs.Cut.{take-drop-take}
use Rattle.util.specs.View.{little, little_bytes, word_at, view, same}

both : (x y : Bool) → cond x y false ≡ true → (x ≡ true) × (y ≡ true)
both true y e = (refl, e)
both false y e = absurd (false≢true e)

-- what is like a where b is like it
pub same_like : (n : ℕ) (a b c : List ℕ) → same n a b ≡ true → same n a c ≡ same n b c
unfolding same
same_like zero a b c e = refl
same_like (suc n) a b c e =
    let w = both (eqb (get_or a n 0) (get_or b n 0)) (same n a b) e in
    rw (eqb-true (get_or a n 0) (get_or b n 0) w.0, same_like n a b c w.1) refl

-- a word is its first byte, and 256 times the word of the others
pub word_step : (n : ℕ) (s : List ℕ) (p : ℕ) → p < length s → word_at (suc n) s p ≡ get_or s p 0 + 256 * word_at n s (p + 1)
unfolding little
word_step n s p h = rw (drop-cons s p 0 h, add-one p) refl

-- two bytes, and four
pub word_two : (s : List ℕ) (p : ℕ) → p + 2 ≤ length s → get_or s p 0 + 256 * get_or s (p + 1) 0 ≡ word_at 2 s p
unfolding little
word_two s p h = omega (arith, word_step 1 s p (omega arith), word_step 0 s (p + 1) (omega arith))

-- a word is the word of its first bytes and the word of the others
pub word_join : (a b : ℕ) (s : List ℕ) (p : ℕ) → p + a ≤ length s → word_at (a + b) s p ≡ word_at a s p + 256 ^ a * word_at b s (p + a)
unfolding little
word_join zero b s p h = rw (zero-add b, add-zero p) (none (little (take b (drop p s))))
  where
    none : (x : ℕ) → x ≡ 0 + 256 ^ 0 * x
    none x = omega arith
word_join (suc a) b s p h =
    let q : p + 1 + a ≡ p + suc a = omega arith in
    let f = word_step a s p (omega arith) in
    let g = word_join a b s (p + 1) (omega arith) in
    rw (suc-add a b, word_step (a + b) s p (omega arith), f, g, q, pow-suc 256 a) (spread (get_or s p 0) (word_at a s (p + 1)) (256 ^ a) (word_at b s (p + suc a)))
  where
    spread : (x y z w : ℕ) → x + 256 * (y + z * w) ≡ x + 256 * y + z * 256 * w
    spread x y z w = rw (mul-add 256 y (z * w), mul_right_comm z 256 w, mul_comm 256 (z * w)) (sym (add_assoc x (256 * y) (z * w * 256)))

-- a word of some bytes of a section stands in the section
pub word_part : (n m p q : ℕ) (s : List ℕ) → q + n ≤ m → word_at n (take m (drop p s)) q ≡ word_at n s (p + q)
word_part n m p q s h = ap little (take-drop-take q n m (drop p s) h ∙ ap (take n) (drop-drop q p s))

-- a word of one byte
pub word_one : (s : List ℕ) (p : ℕ) → p < length s → get_or s p 0 ≡ word_at 1 s p
unfolding little
word_one s p h = omega (arith, word_step 0 s p h)

-- ---- the bytes of a word

pub length-little : (n x : ℕ) → length (little_bytes n x) ≡ n
unfolding little_bytes
length-little zero x = refl
length-little (suc n) x = ap suc (length-little n (x / 256))

-- a word of n bytes is its bytes' word
pub little-little : (n x : ℕ) → x < 256 ^ n → little (little_bytes n x) ≡ x
unfolding little little_bytes
little-little zero x h = omega arith
little-little (suc n) x h =
    let q : x / 256 < 256 ^ n = let e = pow-suc 256 n in omega arith in
    let ih = little-little n (x / 256) q in
    omega arith

-- ---- lists of items

-- item i of a mapped list, whatever the defaults
pub map_at : {A B : Type 0} (f : A → B) (xs : List A) (i : ℕ) (d : A) (e : B) → i < length xs → get_or (map f xs) i e ≡ f (get_or xs i d)
map_at f [] i d e h = absurd (omega arith)
map_at f (x ∷ xs) zero d e h = refl
map_at f (x ∷ xs) (suc i) d e h = map_at f xs i d e (omega arith)

drop-take : (a b : ℕ) (l : List ℕ) → drop a (take (a + b) l) ≡ take b (drop a l)
drop-take zero b l = rw (zero-add b) refl
drop-take (suc a) b [] = rw (suc-add a b, take-nil {A = ℕ} b) refl
drop-take (suc a) b (x ∷ l) = rw (suc-add a b) (drop-take a b l)

module _ {A : Type 0} (size : ℕ) (read : List ℕ → A) where
  pub view-length : (n : ℕ) (bs : List ℕ) → length (view size read n bs) ≡ n
  unfolding view
  view-length zero bs = refl
  view-length (suc n) bs = ap suc (view-length n (drop size bs))

  -- item i
  pub view_at : (n i : ℕ) (bs : List ℕ) (d : A) → i < n → get_or (view size read n bs) i d ≡ read (take size (drop (size * i) bs))
  unfolding view
  view_at zero i bs d h = absurd (omega arith)
  view_at (suc n) zero bs d h = rw (mul-zero size) refl
  view_at (suc n) (suc i) bs d h =
      let q : size * suc i ≡ size + size * i = mul-suc size i ∙ add_comm (size * i) size in
      view_at n i (drop size bs) d (omega arith) ∙ ap (λ (l : List ℕ). read (take size l)) (drop-drop (size * i) size bs ∙ ap (λ (k : ℕ). drop k bs) (sym q))

  -- item i of the items at p
  pub view_there : (n i p : ℕ) (s : List ℕ) (d : A) → i < n → get_or (view size read n (drop p s)) i d ≡ read (take size (drop (p + size * i) s))
  view_there n i p s d h = view_at n i (drop p s) d h ∙ ap (λ (l : List ℕ). read (take size l)) (drop-drop (size * i) p s)

  -- the items see no byte past them
  pub view-take : (n : ℕ) (bs : List ℕ) → view size read n (take (size * n) bs) ≡ view size read n bs
  unfolding view
  view-take zero bs = refl
  view-take (suc n) bs =
      let q : size * suc n ≡ size + size * n = mul-suc size n ∙ add_comm (size * n) size in
      rw q (rw (take-take size (size + size * n) bs (omega arith), drop-take size (size * n) bs, view-take n (drop size bs)) refl)

  -- .. so what follows the bytes does not matter
  pub view_front : (n : ℕ) (b t : List ℕ) → size * n ≤ length b → view size read n (b ++ t) ≡ view size read n b
  view_front n b t h = sym (view-take n (b ++ t)) ∙ ap (view size read n) (take-append-le (size * n) b t h) ∙ view-take n b

  -- some items, and the others
  pub view-add : (a n : ℕ) (b : List ℕ) → view size read (a + n) b ≡ view size read a b ++ view size read n (drop (size * a) b)
  unfolding view
  view-add zero n b = rw (zero-add n, mul-zero size) refl
  view-add (suc a) n b =
      let q : size * suc a ≡ size + size * a = mul-suc size a ∙ add_comm (size * a) size in
      rw (suc-add a n, q, ← drop-drop (size * a) size b) (ap (λ (l : List A). read (take size b) ∷ l) (view-add a n (drop size b)))

-- what f gives for each item
pub view-map : {A B : Type 0} (f : A → B) (size : ℕ) (read : List ℕ → A) (n : ℕ) (bs : List ℕ) → map f (view size read n bs) ≡ view size (λ item. f (read item)) n bs
unfolding view
view-map f size read zero bs = refl
view-map f size read (suc n) bs = ap (λ (l : List _). f (read (take size bs)) ∷ l) (view-map f size read n (drop size bs))

-- ---- the bytes of a word, written one by one

pub byte_written : (n : ℕ) (xs : List ℕ) (at i x : ℕ) → i < n
    → sets xs (at + i) (little_bytes (n - i) x) ≡ sets (set xs (at + i) (x % 256)) (at + (i + 1)) (little_bytes (n - (i + 1)) (x / 256))
unfolding little_bytes
byte_written n xs at i x h =
    ap (λ (k : ℕ). sets xs (at + i) (little_bytes k x)) (left n i h)
    ∙ ap (λ (j : ℕ). sets (set xs (at + i) (x % 256)) j (little_bytes (n - (i + 1)) (x / 256))) (next at i)
  where
    left : (n i : ℕ) → i < n → n - i ≡ suc (n - (i + 1))
    left n i h = omega arith

    next : (at i : ℕ) → suc (at + i) ≡ at + (i + 1)
    next at i = omega arith

pub bytes_written : (n : ℕ) (xs : List ℕ) (at i x : ℕ) → n ≤ i → xs ≡ sets xs (at + i) (little_bytes (n - i) x)
unfolding little_bytes
bytes_written n xs at i x h = sym (ap (λ (k : ℕ). sets xs (at + i) (little_bytes k x)) (none n i h))
  where
    none : (n i : ℕ) → n ≤ i → n - i ≡ 0
    none n i h = omega arith

-- ---- the first bytes, compared

lt_of : (k n : ℕ) → k < suc n → (k ≡ n → ⊥) → k < n
lt_of k n h d = omega arith

same_each : (n : ℕ) (a b : List ℕ) → same n a b ≡ true → (k : ℕ) → k < n → get_or a k 0 ≡ get_or b k 0
unfolding same
same_each zero a b e k h = absurd (omega arith)
same_each (suc n) a b e k h =
    let w = both (eqb (get_or a n 0) (get_or b n 0)) (same n a b) e in
    go (eqb k n) refl (same_each n a b w.1 k) w.0
  where
    go : (c : Bool) → eqb k n ≡ c → (k < n → get_or a k 0 ≡ get_or b k 0) → eqb (get_or a n 0) (get_or b n 0) ≡ true → get_or a k 0 ≡ get_or b k 0
    go true q f u = rw (eqb-true k n q) (eqb-true _ _ u)
    go false q f u = f (lt_of k n h (eqb-false k n q))

same_self : (n : ℕ) (a : List ℕ) → same n a a ≡ true
unfolding same
same_self zero a = refl
same_self (suc n) a = rw (eq-eqb (get_or a n 0) (get_or a n 0) refl) (same_self n a)

-- `same` of whole lists, as std compares them
pub same_whole : (a b : List ℕ) (n : ℕ) → length a ≡ n → length b ≡ n → pointwise eqb b a ≡ same n a b
same_whole a b n e f = go (pointwise eqb b a) (same n a b) (told_text b a (pointwise eqb b a) refl) refl
  where
    go : (r w : Bool) → MatchBool r (b ≡ a) (b ≢ a) → same n a b ≡ w → r ≡ w
    go true w h q = sym (same_self n a) ∙ ap (same n a) (sym h) ∙ q
    go false true h q = absurd (h (sym (same_number_lists a b (e ∙ sym f) (λ k l. same_each n a b q k (omega arith)))))
    go false false h q = refl
