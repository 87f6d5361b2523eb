-- What holds of every value that a reader gives on bytes. Assumes nothing.
use Prim.Native.Nat.{ℕ, zero, suc, ◌+◌, ◌*◌, ◌/◌, ◌%◌, ◌^◌, max, ◌≤◌, ◌<◌}
use mathlib.Core.Bool.{Bool, true, false, cond}
use mathlib.Core.List.{List, [], ◌∷◌, ◌++◌}
use mathlib.Core.Path.{◌≡◌, refl, ap, subst}
use native.Mathlib.Nat.{pow-suc, one-le-pow}
use native.Mathlib.Omega.{arith}
use lib.Dec.{lit<}
use lib.ListN.{length, take, drop, get_or, length-take, length-drop}
use lib.Seq.{get_or-drop}
use Rattle.util.specs.View.{little, little_bytes, word_at, view}
use Rattle.util.specs.Reader.{Reader, done, refuse, part, accepted, run, bind, each, word, list, unless}
use Rattle.util.specs.Place.{within}
use Rattle.util.proofs.Cut.{had_part}
use Rattle.util.proofs.ViewLaws.{view-length}

-- every number of a list is a byte
abbrev pub Bytes : List ℕ → Type 0
Bytes s = (i : ℕ) → get_or s i 0 < 256

pub bytes_drop : (n : ℕ) (s : List ℕ) → Bytes s → Bytes (drop n s)
bytes_drop n s h i = rw get_or-drop (h (n + i))

pub bytes_take : (n : ℕ) (s : List ℕ) → Bytes s → Bytes (take n s)
bytes_take zero s h i = lit< tt
bytes_take (suc n) [] h i = lit< tt
bytes_take (suc n) (b ∷ s) h zero = h 0
bytes_take (suc n) (b ∷ s) h (suc i) = bytes_take n s (λ j. h (suc j)) i

pub bytes_append : (s t : List ℕ) → Bytes s → Bytes t → Bytes (s ++ t)
bytes_append [] t h k i = k i
bytes_append (b ∷ s) t h k zero = h 0
bytes_append (b ∷ s) t h k (suc i) = bytes_append s t (λ j. h (suc j)) k i

pub bytes_little : (n x : ℕ) → Bytes (little_bytes n x)
unfolding little_bytes
bytes_little zero x i = lit< tt
bytes_little (suc n) x zero = omega arith
bytes_little (suc n) x (suc i) = bytes_little n (x / 256) i

take-le : (n : ℕ) (s : List ℕ) → length (take n s) ≤ n
take-le n s = simp length-take (omega arith)

-- a word of at most n bytes is below 256 ^ n
little-lt : (n : ℕ) (bs : List ℕ) → Bytes bs → length bs ≤ n → little bs < 256 ^ n
unfolding little
little-lt n [] h l = one-le-pow n 256 (lit< tt)
little-lt zero (b ∷ bs) h l = absurd (omega arith)
little-lt (suc n) (b ∷ bs) h l =
    let w = little-lt n bs (λ j. h (suc j)) (omega arith) in
    let k : b < 256 = h 0 in
    rw pow-suc (omega arith)

pub word_lt : (n : ℕ) (s : List ℕ) (p : ℕ) → Bytes s → word_at n s p < 256 ^ n
word_lt n s p h = little-lt n (take n (drop p s)) (bytes_take n (drop p s) (bytes_drop p s h)) (take-le n (drop p s))

-- the bytes of a word are the bytes that it was read from
little_bytes_lem : (n : ℕ) (s : List ℕ) → Bytes s → n ≤ length s → little_bytes n (little (take n s)) ≡ take n s
unfolding little little_bytes
little_bytes_lem zero s h l = refl
little_bytes_lem (suc n) [] h l = absurd (omega arith)
little_bytes_lem (suc n) (b ∷ s) h l =
    let k : b < 256 = h 0 in
    let w = little (take n s) in
    let low : (b + 256 * w) % 256 ≡ b = omega arith in
    let high : (b + 256 * w) / 256 ≡ w = omega arith in
    rw (low, high, little_bytes_lem n s (λ j. h (suc j)) (omega arith)) refl

pub word_bytes : (n : ℕ) (s : List ℕ) (p : ℕ) → Bytes s → p + n ≤ length s → little_bytes n (word_at n s p) ≡ take n (drop p s)
word_bytes n s p h l = little_bytes_lem n (drop p s) (bytes_drop p s h) (simp length-drop (omega arith))

module _ {A : Type 0} where
  -- every element of a list satisfies P
  abbrev pub Each : (A → Type 0) → List A → Type 0
  Each P [] = Unit {0}
  Each P (x ∷ xs) = P x × Each P xs

  pub each_at : (P : A → Type 0) (xs : List A) (d : A) → Each P xs → (i : ℕ) → i < length xs → P (get_or xs i d)
  each_at P [] d h i l = absurd (omega arith)
  each_at P (x ∷ xs) d h zero l = h.0
  each_at P (x ∷ xs) d h (suc i) l = each_at P xs d h.1 i (omega arith)

  -- .. and so does the default beyond it
  pub each_get_d : (P : A → Type 0) (xs : List A) (d : A) → Each P xs → P d → (i : ℕ) → P (get_or xs i d)
  each_get_d P [] d h p i = p
  each_get_d P (x ∷ xs) d h p zero = h.0
  each_get_d P (x ∷ xs) d h p (suc i) = each_get_d P xs d h.1 p i

  -- what holds of everything, or follows from what is known of each
  pub each_of : (P : A → Type 0) → ((x : A) → P x) → (xs : List A) → Each P xs
  each_of P h [] = tt
  each_of P h (x ∷ xs) = (h x, each_of P h xs)

  pub each_map : (P Q : A → Type 0) → ((x : A) → P x → Q x) → (xs : List A) → Each P xs → Each Q xs
  each_map P Q f [] h = tt
  each_map P Q f (x ∷ xs) h = (f x h.0, each_map P Q f xs h.1)

  -- n values, and P of each
  abbrev pub Many : (A → Type 0) → ℕ → List A → Type 0
  Many P n xs = (length xs ≡ n) × Each P xs

  -- n items, where P holds of what is read from bytes
  pub view_many : (P : A → Type 0) (size : ℕ) (read : List ℕ → A) → ((bs : List ℕ) → Bytes bs → P (read bs))
      → (n : ℕ) (bs : List ℕ) → Bytes bs → Many P n (view size read n bs)
  unfolding view
  view_many P size read r zero bs h = (refl, tt)
  view_many P size read r (suc n) bs h =
      let w = view_many P size read r n (drop size bs) (bytes_drop size bs h) in
      (ap suc w.0, (r (take size bs) (bytes_take size bs h), w.1))

  -- P of every value that a reader gives, whatever bytes its parts hold: each at most its own number of them
  abbrev pub All : (A → Type 0) → Reader A → Type 0
  All P (done a) = P a
  All P (refuse n) = Unit {0}
  All P (part p n rest) = (bs : List ℕ) → Bytes bs → length bs ≤ n → All P (rest bs)

  pub all_run : (P : A → Type 0) (r : Reader A) → All P r → (s : List ℕ) → Bytes s → (m m' : ℕ) (a : A) → run r s m ≡ accepted m' a → P a
  unfolding run
  all_run P (done a') h s b m m' a e = let q : a' ≡ a = cc in subst P q h
  all_run P (refuse n) h s b m m' a e = let z : ◌≡◌ {A = ℕ} 0 1 = cc in absurd (omega arith)
  all_run P (part p n rest) h s b m m' a e =
      let bs = take n (drop p s) in
      let w = had_part (p + n) (length s) (run (rest bs) s (max m (p + n))) m' a e in
      all_run P (rest bs) (h bs (bytes_take n (drop p s) (bytes_drop p s b)) (take-le n (drop p s))) s b (max m (p + n)) m' a w.1

  pub all_any : (r : Reader A) → All (λ _. Unit {0}) r
  all_any (done a) = tt
  all_any (refuse n) = tt
  all_any (part p n rest) = λ bs y l. all_any (rest bs)

  pub all_map : (P Q : A → Type 0) → ((a : A) → P a → Q a) → (r : Reader A) → All P r → All Q r
  all_map P Q f (done a) h = f a h
  all_map P Q f (refuse n) h = tt
  all_map P Q f (part p n rest) h = λ bs y l. all_map P Q f (rest bs) (h bs y l)

  pub all_cond : (P : A → Type 0) (b : Bool) (r q : Reader A) → All P r → All P q → All P (cond b r q)
  all_cond P true r q h l = h
  all_cond P false r q h l = l

  -- a reader placed elsewhere gives nothing new
  pub all_within : (P : A → Type 0) (b : ℕ) (r : Reader A) → All P r → All P (within b r)
  unfolding within
  all_within P b (done a) h = h
  all_within P b (refuse n) h = tt
  all_within P b (part p n rest) h = λ bs y l. all_within P b (rest bs) (h bs y l)

pub list_all : {A : Type 0} (P : A → Type 0) (p size : ℕ) (read : List ℕ → A) → ((bs : List ℕ) → Bytes bs → P (read bs)) → (n : ℕ) → All (Many P n) (list p size read n)
list_all P p size read r n = λ bs y _. view_many P size read r n bs y

-- .. and where only its length matters
pub length_all : {A : Type 0} (p size : ℕ) (read : List ℕ → A) (n : ℕ) → All (λ xs. length xs ≡ n) (list p size read n)
length_all p size read n = λ bs _ _. view-length size read n bs

pub word_all : (p n : ℕ) → All (λ x. x < 256 ^ n) (word p n)
word_all p n = little-lt n

-- what is accepted passed the test
pub unless_all : (b : Bool) (n : ℕ) → All (λ _. b ≡ true) (unless b n)
unfolding unless
unless_all true n = refl
unless_all false n = tt

module _ {A B : Type 0} where
  -- one reader after the other
  pub all_bind : (P : A → Type 0) (Q : B → Type 0) (r : Reader A) (f : A → Reader B) → All P r → ((a : A) → P a → All Q (f a)) → All Q (bind r f)
  unfolding bind
  all_bind P Q (done a) f h k = k a h
  all_bind P Q (refuse n) f h k = tt
  all_bind P Q (part p n rest) f h k = λ bs y l. all_bind P Q (rest bs) f (h bs y l) k

  -- .. where nothing need be known of the first
  pub all_after : (Q : B → Type 0) (r : Reader A) (f : A → Reader B) → ((a : A) → All Q (f a)) → All Q (bind r f)
  all_after Q r f k = all_bind (λ _. Unit {0}) Q r f (all_any r) (λ a _. k a)

module _ {A B : Type 0} (P : B → Type 0) (f : A → Reader B) where
  -- one reader for each element
  pub all_each : (xs : List A) → Each (λ x. All P (f x)) xs → All (Many P (length xs)) (each f xs)
  unfolding each
  all_each [] h = (refl, tt)
  all_each (x ∷ xs) h =
      all_bind P (Many P (length (x ∷ xs))) (f x) _ h.0
      (λ y p. all_bind (Many P (length xs)) (Many P (length (x ∷ xs))) (each f xs) _ (all_each xs h.1) (λ ys q. (ap suc q.0, (p, q.1))))
