-- Fields one after the other: how they stand in some bytes, what is read there, and how they are written. Assumes nothing.
use Prim.Native.Nat.{ℕ, zero, suc, ◌+◌, ◌*◌, ◌^◌, ◌≤◌, ◌<◌}
use mathlib.Core.List.{List, [], ◌∷◌, ◌++◌, flatten, append_assoc, append-nil}
use mathlib.Core.Path.{◌≡◌, refl, sym, ap, subst, ◌∙◌}
use native.Mathlib.Nat.{mul-zero, mul-suc, add_comm}
use native.Mathlib.Omega.{arith}
use lib.ListN.{length, take, drop, length-append, length-drop}
use lib.Seq.{sets, length-take-le, drop-drop, drop-append_seam, take_at, drop_at}
use Rattle.util.specs.View.{little, little_bytes, word_at, view}
use Rattle.util.proofs.All.{Each}
use Rattle.util.proofs.ViewLaws.{length-little, little-little}
use Rattle.util.proofs.WritesLaws.{sets_after}

-- b stands at p in s, with something after it
pub record Stands (s : List ℕ) (p : ℕ) (b : List ℕ) : Type 0 where
  pub tail : List ℕ
  pub here : drop p s ≡ b ++ tail
  pub inside : p + length b ≤ length s

-- fields stand one after the other
unfoldable pub Row : List ℕ → ℕ → List (List ℕ) → Type 0
Row s p [] = Unit {0}
Row s p (b ∷ bs) = Stands s p b × Row s (p + length b) bs

pub stands_at : (s b : List ℕ) (p q : ℕ) → p ≡ q → Stands s p b → Stands s q b
stands_at s b p q e w = subst (λ (k : ℕ). Stands s k b) e w

pub stands_all : (b t : List ℕ) → Stands (b ++ t) 0 b
stands_all b t = record { tail = t; here = refl; inside = simp length-append (omega arith) }

-- in what follows o
pub stands_drop : (s b : List ℕ) (o p : ℕ) → Stands s (o + p) b → Stands (drop o s) p b
stands_drop s b o p w = record { tail = w.tail; here = drop-drop p o s ∙ w.here; inside = let i = w.inside in simp length-drop (omega arith) }

module _ (s : List ℕ) (p : ℕ) (a b : List ℕ) (w : Stands s p (a ++ b)) where
  pub stands_first : Stands s p a
  stands_first =
      let i : p + length (a ++ b) ≤ length s = w.inside in
      let l = length-append a b in
      record { tail = b ++ w.tail; here = w.here ∙ append_assoc a b w.tail; inside = omega arith }

  pub stands_second : Stands s (p + length a) b
  stands_second =
      let i : p + length (a ++ b) ≤ length s = w.inside in
      let l = length-append a b in
      record {
        tail = w.tail;
        here = sym (drop-drop (length a) p s) ∙ ap (drop (length a)) (w.here ∙ append_assoc a b w.tail) ∙ drop-append_seam a (b ++ w.tail);
        inside = omega arith;
      }

-- what is joined stands field by field
pub row : (s : List ℕ) (p : ℕ) (bs : List (List ℕ)) → Stands s p (flatten bs) → Row s p bs
unfolding flatten Row
row s p [] w = tt
row s p (b ∷ bs) w = (stands_first s p b (flatten bs) w, row s (p + length b) bs (stands_second s p b (flatten bs) w))

-- the bytes that are read where b stands
pub stands_bytes : (s : List ℕ) (p : ℕ) (b : List ℕ) (n : ℕ) → Stands s p b → length b ≡ n → take n (drop p s) ≡ b
stands_bytes s p b n w e = ap (take n) w.here ∙ take_at b w.tail n e

-- ---- words, and items of one size

pub stands_word : (s : List ℕ) (p n x : ℕ) → Stands s p (little_bytes n x) → x < 256 ^ n → word_at n s p ≡ x
stands_word s p n x w h = ap little (stands_bytes s p (little_bytes n x) n w (length-little n x)) ∙ little-little n x h

pub length-flatten : (size : ℕ) (xs : List (List ℕ)) → Each (λ x. length x ≡ size) xs → length (flatten xs) ≡ size * length xs
unfolding flatten
length-flatten size [] e = sym (mul-zero size)
length-flatten size (x ∷ xs) e = length-append x (flatten xs) ∙ (rw (e.0, length-flatten size xs e.1, mul-suc size (length xs)) (add_comm size (size * length xs)))

pub view-flatten : (size : ℕ) (xs : List (List ℕ)) (t : List ℕ) → Each (λ x. length x ≡ size) xs → view size (λ bs. bs) (length xs) (flatten xs ++ t) ≡ xs
unfolding view flatten
view-flatten size [] t e = refl
view-flatten size (x ∷ xs) t e =
    let q : x ++ flatten xs ++ t ≡ x ++ (flatten xs ++ t) = append_assoc x (flatten xs) t in
    rw (q, take_at x (flatten xs ++ t) size e.0, drop_at x (flatten xs ++ t) size e.0, view-flatten size xs t e.1) refl

-- items that are read have their size where there are bytes enough
pub view_sized : (size n : ℕ) (bs : List ℕ) → size * n ≤ length bs → Each (λ x. length x ≡ size) (view size (λ x. x) n bs)
unfolding view
view_sized size zero bs h = tt
view_sized size (suc n) bs h =
    let q : size * suc n ≡ size * n + size = mul-suc size n in
    (length-take-le size bs (omega arith), view_sized size n (drop size bs) (simp length-drop (omega arith)))

-- items that stand somewhere are those that are read there
pub stands_view : (s : List ℕ) (p size c : ℕ) (xs : List (List ℕ)) → Stands s p (flatten xs) → length xs ≡ c → Each (λ x. length x ≡ size) xs → view size (λ bs. bs) c (drop p s) ≡ xs
stands_view s p size c xs w n e = rw (← n, w.here) (view-flatten size xs w.tail e)

-- ---- fields that are written one after the other

pub single : (b : List ℕ) → flatten (b ∷ []) ≡ b
unfolding flatten
single b = append-nil b

flatten-append : (bs cs : List (List ℕ)) → flatten (bs ++ cs) ≡ flatten bs ++ flatten cs
unfolding flatten
flatten-append [] cs = refl
flatten-append (a ∷ bs) cs = ap (λ (l : List ℕ). a ++ l) (flatten-append bs cs) ∙ sym (append_assoc a (flatten bs) (flatten cs))

-- l is the list l₀ after the fields bs were written from `at` on, the next one goes to `to`
pub record Wrote (l₀ : List ℕ) (at : ℕ) (bs : List (List ℕ)) (l : List ℕ) (to : ℕ) : Type 0 where
  pub is : l ≡ sets l₀ at (flatten bs)
  pub next : to ≡ at + length (flatten bs)

pub nothing : (l : List ℕ) (at : ℕ) → Wrote l at [] l at
unfolding flatten
nothing l at = record { is = refl; next = omega arith }

module _ {l₀ : List ℕ} {at : ℕ} {bs : List (List ℕ)} {l : List ℕ} {p : ℕ} (w : Wrote l₀ at bs l p) where
  -- fields more, that were written as one
  pub several : (cs : List (List ℕ)) (l' : List ℕ) (q : ℕ) → q ≡ p + length (flatten cs) → l' ≡ sets l p (flatten cs) → Wrote l₀ at (bs ++ cs) l' q
  several cs l' q f h =
      let j : flatten (bs ++ cs) ≡ flatten bs ++ flatten cs = flatten-append bs cs in
      let m : length (flatten (bs ++ cs)) ≡ length (flatten bs) + length (flatten cs) = ap length j ∙ length-append (flatten bs) (flatten cs) in
      let k = w.next in
      record {
        is = h ∙ ap (λ (x : List ℕ). sets x p (flatten cs)) w.is ∙ sets_after l₀ at p (flatten bs) (flatten cs) (sym w.next) ∙ ap (sets l₀ at) (sym j);
        next = omega arith;
      }

  -- one
  pub more : (b l' : List ℕ) (q : ℕ) → q ≡ p + length b → l' ≡ sets l p b → Wrote l₀ at (bs ++ (b ∷ [])) l' q
  more b l' q e h = several (b ∷ []) l' q (e ∙ ap (λ (x : List ℕ). p + length x) (sym (single b))) (h ∙ ap (sets l p) (sym (single b)))

  -- .. that is a word
  pub word : (n x : ℕ) (l' : List ℕ) (q : ℕ) → (q ≡ p + n) × (l' ≡ sets l p (little_bytes n x)) → Wrote l₀ at (bs ++ (little_bytes n x ∷ [])) l' q
  word n x l' q h = more (little_bytes n x) l' q (h.0 ∙ ap (λ (k : ℕ). p + k) (sym (length-little n x))) h.1
