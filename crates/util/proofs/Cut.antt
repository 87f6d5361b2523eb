-- What a cut does to a reader, by recursion on it: `kept`, `cut` and `stays`. Assumes nothing.
use Prim.Native.Nat.{ℕ, zero, suc, ◌+◌, max, ◌≤◌, ◌<◌}
use mathlib.Core.Bool.{Bool, true, false}
use mathlib.Core.List.{List, [], ◌∷◌, ◌++◌}
use mathlib.Core.Logic.{⊎_elim, ◌⊎◌, inl, inr}
use mathlib.Core.Path.{◌≡◌, refl, ap, subst, ◌∙◌}
use native.Mathlib.Nat.{le_of_eq}
use native.Mathlib.Omega.{arith}
use borrow.Author.Tests.{le-leb, lt-leb, leb-true, leb-false}
use lib.Dec.{leb}
use lib.ListN.{length, take, drop, length-take, length-append, length-drop}
use lib.Seq.{take-append-le, drop-append-le, take-take, take_all}
use Rattle.util.specs.Reader.{Reader, done, refuse, part, Outcome, accepted, refused, pick, ends, run}
use Rattle.util.specs.Place.{front}

pub le_or_lt : (a b : ℕ) → (a ≤ b) ⊎ (b < a)
le_or_lt a b = go (leb a b) refl
  where
    go : (t : Bool) → leb a b ≡ t → (a ≤ b) ⊎ (b < a)
    go true e = inl (leb-true a b e)
    go false e = inr (leb-false a b e)

-- a part of what is taken
pub take-drop-take : (p n k : ℕ) (s : List ℕ) → p + n ≤ k → take n (drop p (take k s)) ≡ take n (drop p s)
take-drop-take zero n k s l = take-take n k s (omega arith)
take-drop-take (suc p) n zero s l = absurd (omega arith)
take-drop-take (suc p) n (suc k) [] l = refl
take-drop-take (suc p) n (suc k) (x ∷ s) l = take-drop-take p n k s (omega arith)

-- a part that ends by the cut holds the same bytes
pub same_part : (p n k : ℕ) (s t : List ℕ) → p + n ≤ length s → p + n ≤ k → take n (drop p (front k s t)) ≡ take n (drop p s)
same_part p n k s t h l =
    let short : p ≤ length (take k s) = simp length-take (omega arith) in
    let inner : n ≤ length (drop p (take k s)) = simp (length-drop, length-take) (omega arith) in
    ap (take n) (drop-append-le p (take k s) t short) ∙ (take-append-le n (drop p (take k s)) t inner ∙ take-drop-take p n k s l)

-- what stands in s stands there with t after it
whole_part : (p n : ℕ) (s t : List ℕ) → p + n ≤ length s → take n (drop p (s ++ t)) ≡ take n (drop p s)
whole_part p n s t h =
    let inner : n ≤ length (drop p s) = simp length-drop (omega arith) in
    ap (take n) (drop-append-le p s t (omega arith)) ∙ take-append-le n (drop p s) t inner

module _ {A : Type 0} where
  -- what is accepted after a part had the part whole
  pub had_part : (e n : ℕ) (o : Outcome A) (m : ℕ) (a : A) → ends e n o ≡ accepted m a → (e ≤ n) × (o ≡ accepted m a)
  unfolding ends
  had_part e n o m a q = go (leb e n) refl q
    where
      go : (b : Bool) → leb e n ≡ b → pick b o ≡ accepted m a → (e ≤ n) × (o ≡ accepted m a)
      go true t q = (leb-true e n t, q)
      go false t q = let z : ◌≡◌ {A = ℕ} 0 1 = cc in absurd (omega arith)

  -- .. and so had what is refused other than as too short
  pub had_refused : (e n : ℕ) (o : Outcome A) (c : ℕ) → ends e n o ≡ refused c → (c ≡ 2 → ⊥) → (e ≤ n) × (o ≡ refused c)
  unfolding ends
  had_refused e n o c q h = go (leb e n) refl q
    where
      go : (b : Bool) → leb e n ≡ b → pick b o ≡ refused c → (e ≤ n) × (o ≡ refused c)
      go true t q = (leb-true e n t, q)
      go false t q = absurd (h (cc))

  -- the part is there: go on
  pub had : (e n : ℕ) (o x : Outcome A) → e ≤ n → o ≡ x → ends e n o ≡ x
  unfolding ends
  had e n o x h q = rw (le-leb e n h) q

  -- the part is not there
  pub short : (e n : ℕ) (o : Outcome A) → n < e → ends e n o ≡ refused 2
  unfolding ends
  short e n o h = rw (lt-leb e n h) refl

  -- whether or not the part is there, the rest is too short
  pub past : (e n : ℕ) (o : Outcome A) → o ≡ refused 2 → ends e n o ≡ refused 2
  unfolding ends
  past e n o q = go (leb e n)
    where
      go : (b : Bool) → pick b o ≡ refused 2
      go true = q
      go false = refl

  -- the reach only grows
  pub grows : (r : Reader A) (s : List ℕ) (m m' : ℕ) (a : A) → run r s m ≡ accepted m' a → m ≤ m'
  unfolding run
  grows (done a') s m m' a e = let q : m ≡ m' = cc in omega arith
  grows (refuse n) s m m' a e = let q : ◌≡◌ {A = ℕ} 0 1 = cc in absurd (omega arith)
  grows (part p n f) s m m' a e =
      let w = had_part (p + n) (length s) (run (f (take n (drop p s))) s (max m (p + n))) m' a e in
      let h = grows (f (take n (drop p s))) s (max m (p + n)) m' a w.1 in
      omega arith

  -- a cut from the reach on changes nothing, whatever follows
  pub kept : (r : Reader A) (s : List ℕ) (m m' : ℕ) (a : A) → run r s m ≡ accepted m' a → (k : ℕ) (t : List ℕ) → m' ≤ k → run r (front k s t) m ≡ accepted m' a
  unfolding run
  kept (done a') s m m' a e k t h = e
  kept (refuse n) s m m' a e k t h = let q : ◌≡◌ {A = ℕ} 0 1 = cc in absurd (omega arith)
  kept (part p n f) s m m' a e k t h =
      let w = had_part (p + n) (length s) (run (f (take n (drop p s))) s (max m (p + n))) m' a e in
      let l : p + n ≤ length s = w.0 in
      let g : max m (p + n) ≤ m' = grows (f (take n (drop p s))) s (max m (p + n)) m' a w.1 in
      let l' : p + n ≤ length (front k s t) = simp (length-append, length-take) (omega arith) in
      had _ _ _ _ l' (rw (same_part p n k s t l (omega arith)) (kept (f (take n (drop p s))) s (max m (p + n)) m' a w.1 k t h))

  -- what is accepted reaches no further than the section
  pub no_further : (r : Reader A) (s : List ℕ) (m m' : ℕ) (a : A) → run r s m ≡ accepted m' a → m ≤ length s → m' ≤ length s
  unfolding run
  no_further (done a') s m m' a e l = let q : m ≡ m' = cc in omega arith
  no_further (refuse n) s m m' a e l = let q : ◌≡◌ {A = ℕ} 0 1 = cc in absurd (omega arith)
  no_further (part p n f) s m m' a e l =
      let w = had_part (p + n) (length s) (run (f (take n (drop p s))) s (max m (p + n))) m' a e in
      no_further (f (take n (drop p s))) s (max m (p + n)) m' a w.1 (omega arith)

  -- what is accepted is accepted whatever follows
  pub follows : (r : Reader A) (s t : List ℕ) (m : ℕ) (a : A) → run r s 0 ≡ accepted m a → run r (s ++ t) 0 ≡ accepted m a
  follows r s t m a e = subst (λ (x : List ℕ). run r (x ++ t) 0 ≡ accepted m a) (take_all (length s) s (le_of_eq refl)) (kept r s 0 m a e (length s) t (no_further r s 0 m a e (omega arith)))

  -- a cut before the reach is too short
  pub cut : (r : Reader A) (s : List ℕ) (m m' : ℕ) (a : A) → run r s m ≡ accepted m' a → (k : ℕ) → m ≤ k → k < m' → run r (take k s) m ≡ refused 2
  unfolding run
  cut (done a') s m m' a e k b h = let q : m ≡ m' = cc in absurd (omega arith)
  cut (refuse n) s m m' a e k b h = let q : ◌≡◌ {A = ℕ} 0 1 = cc in absurd (omega arith)
  cut (part p n f) s m m' a e k b h =
      let w = had_part (p + n) (length s) (run (f (take n (drop p s))) s (max m (p + n))) m' a e in
      let l : p + n ≤ length s = w.0 in
      ⊎_elim
      (λ (i : p + n ≤ k).
      let l' : p + n ≤ length (take k s) = simp length-take (omega arith) in
      had _ _ _ _ l' (rw (take-drop-take p n k s i) (cut (f (take n (drop p s))) s (max m (p + n)) m' a w.1 k (omega arith) h)))
      (λ (o : k < p + n). let l' : length (take k s) < p + n = simp length-take (omega arith) in short _ _ _ l')
      (le_or_lt (p + n) k)

  -- a refusal other than too short stays, whatever follows
  pub stays : (r : Reader A) (s : List ℕ) (m c : ℕ) → run r s m ≡ refused c → (c ≡ 2 → ⊥) → (t : List ℕ) → run r (s ++ t) m ≡ refused c
  unfolding run
  stays (done a') s m c e h t = e
  stays (refuse n) s m c e h t = e
  stays (part p n f) s m c e h t =
      let w = had_refused (p + n) (length s) (run (f (take n (drop p s))) s (max m (p + n))) c e h in
      let l : p + n ≤ length s = w.0 in
      let l' : p + n ≤ length (s ++ t) = simp length-append (omega arith) in
      had _ _ _ _ l' (rw (whole_part p n s t l) (stays (f (take n (drop p s))) s (max m (p + n)) c w.1 h t))

-- ---- reaches

-- a reach that a later part passes
pub over : (m a b c : ℕ) → a ≤ b → max m b ≡ c → max (max m a) b ≡ c
over m a b c h q = omega arith

pub max_right : (m a : ℕ) → m ≤ a → max m a ≡ a
max_right m a h = omega arith

module _ {A : Type 0} where
  pub to : (m n : ℕ) (a : A) → m ≡ n → accepted m a ≡ accepted n a
  to m n a q = ap (λ (k : ℕ). accepted k a) q
