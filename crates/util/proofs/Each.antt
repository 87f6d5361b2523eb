-- Following a list of readers one after the other, as a loop does, and counting what they give. Assumes nothing.
use Prim.Native.Nat.{ℕ, zero, suc, ◌+◌, ◌*◌, ◌≤◌, ◌<◌}
use mathlib.Core.List.{List, [], ◌∷◌}
use mathlib.Core.Path.{◌≡◌, refl, sym, ap, subst, ◌∙◌}
use native.Mathlib.Nat.{add-zero, zero-add, add_assoc}
use native.Mathlib.Numerals.{add-one}
use native.Mathlib.Omega.{arith}
use lib.ListN.{length, take, drop, get_or, drop_of_length-le}
use lib.Seq.{drop-cons}
use Rattle.util.specs.Reader.{Reader, done, Outcome, accepted, refused, run, bind, each}
use Rattle.std.specs.Prelude.{Result, Ok, Err}
use Rattle.util.specs.declared.refusal.Refusal.{Refusal}
use Rattle.util.specs.declared.cur.Tally.{Tally}
use Rattle.util.specs.RefusalCode.{number_of}
use Rattle.util.specs.ReaderCode.{outcome, tallied, reach_of, tally_of, Follows}
use Rattle.util.specs.Sums.{total}
use Rattle.util.specs.View.{view}
use Rattle.util.specs.Place.{raised}
use Rattle.util.proofs.Place.{run_raised}
use Rattle.util.proofs.Calls.{after, run_bind, accepted_first}
use Rattle.util.proofs.ViewLaws.{view-length, view_there}
use Rattle.util.proofs.All.{Each}

-- what follows an outcome, from its reach and its count
abbrev onward : Outcome ℕ → (ℕ → ℕ → Outcome ℕ) → Outcome ℕ
onward (accepted m c) f = f m c
onward (refused n) f = refused n

tally_onward : {A B : Type 0} (g : A → ℕ) (h : B → ℕ) (o : Outcome A) (f : ℕ → A → Outcome B) (k : ℕ → ℕ → Outcome ℕ) → ((j : ℕ) (a : A) → tally_of h (f j a) ≡ k j (g a))
    → tally_of h (after o f) ≡ onward (tally_of g o) k
unfolding after
tally_onward g h (accepted m a) f k e = e m a
tally_onward g h (refused n) f k e = refl

-- a count that starts from 0
pub from_none : {B : Type 0} (g : B → ℕ) (o : Outcome (List B)) → tally_of (λ ys. 0 + total g ys) o ≡ tally_of (total g) o
from_none g (accepted m ys) = ap (accepted m) (zero-add (total g ys))
from_none g (refused n) = refl

module _ {A B : Type 0} (g : B → ℕ) (f : A → Reader B) (s : List ℕ) where
  -- what a list of readers comes to, after parts that reach as far as m and a count of c
  abbrev left : List A → ℕ → ℕ → Outcome ℕ
  left xs m c = tally_of (λ ys. c + total g ys) (run (each f xs) s m)

  one_first : (y : B) (c : ℕ) (o : Outcome (List B)) → tally_of (λ zs. c + total g zs) (after o (λ j ys. accepted j (y ∷ ys))) ≡ tally_of (λ ys. c + g y + total g ys) o
  unfolding after total
  one_first y c (accepted m ys) = ap (accepted m) (sym (add_assoc c (g y) (total g ys)))
  one_first y c (refused n) = refl

  each_cons : (x : A) (xs : List A) (m c : ℕ) → left (x ∷ xs) m c ≡ onward (tally_of g (run (f x) s m)) (λ j d. left xs j (c + d))
  unfolding each run
  each_cons x xs m c =
      ap (tally_of (λ zs. c + total g zs)) (run_bind (f x) _ s m)
      ∙ tally_onward g (λ zs. c + total g zs) (run (f x) s m) _ (λ j d. left xs j (c + d))
      (λ j y. ap (tally_of (λ zs. c + total g zs)) (run_bind (each f xs) (λ ys. done (y ∷ ys)) s j) ∙ one_first y c (run (each f xs) s j))

  module _ (xs : List A) (d : A) where
    -- what is left of the list from index i on
    abbrev pub rest : ℕ → ℕ → ℕ → Outcome ℕ
    rest i m c = left (drop i xs) m c

    unroll : (i m c : ℕ) → i < length xs → rest i m c ≡ onward (tally_of g (run (f (get_or xs i d)) s m)) (λ j e. rest (i + 1) j (c + e))
    unroll i m c h = rw (drop-cons xs i d h, add-one i) (each_cons (get_or xs i d) (drop (suc i) xs) m c)

    -- item i is whole: go on
    pub next : (i m c j e : ℕ) → i < length xs → tally_of g (run (f (get_or xs i d)) s m) ≡ accepted j e → rest i m c ≡ rest (i + 1) j (c + e)
    next i m c j e h q = unroll i m c h ∙ ap (λ (o : Outcome ℕ). onward o (λ j e. rest (i + 1) j (c + e))) q

    -- item i is refused, and so is the list
    pub ended : (i m c n : ℕ) → i < length xs → tally_of g (run (f (get_or xs i d)) s m) ≡ refused n → rest i m c ≡ refused n
    ended i m c n h q = unroll i m c h ∙ ap (λ (o : Outcome ℕ). onward o (λ j e. rest (i + 1) j (c + e))) q

    -- nothing is left
    pub all : (i m c : ℕ) → length xs ≤ i → rest i m c ≡ accepted m c
    unfolding each run total
    all i m c h = rw (drop_of_length-le xs h, add-zero c) refl

-- ---- from what code answers back to the value

module _ {A : Type 0} where
  -- an outcome that is whole has a value
  pub whole_of : (o : Outcome A) (m : ℕ) → reach_of o ≡ accepted m tt → (a : A) × (o ≡ accepted m a)
  whole_of (accepted k a) m e = (a, cc)
  whole_of (refused n) m e = let z : ◌≡◌ {A = ℕ} 0 1 = cc in absurd (omega arith)

  pub refused_of : (o : Outcome A) (n : ℕ) → reach_of o ≡ refused n → o ≡ refused n
  refused_of (accepted k a) n e = let z : ◌≡◌ {A = ℕ} 0 1 = cc in absurd (omega arith)
  refused_of (refused k) n e = cc

  module _ (g : A → ℕ) where
    -- .. and so has one that is counted
    pub counted_of : (o : Outcome A) (m c : ℕ) → tally_of g o ≡ accepted m c → (a : A) × (o ≡ accepted m a) × (g a ≡ c)
    counted_of (accepted k a) m c e = (a, cc, cc)
    counted_of (refused n) m c e = let z : ◌≡◌ {A = ℕ} 0 1 = cc in absurd (omega arith)

    pub uncounted_of : (o : Outcome A) (n : ℕ) → tally_of g o ≡ refused n → o ≡ refused n
    uncounted_of (accepted k a) n e = let z : ◌≡◌ {A = ℕ} 0 1 = cc in absurd (omega arith)
    uncounted_of (refused k) n e = cc

  -- the value does not hang on what was read before
  pub from_zero : (r : Reader A) (s : List ℕ) (m m' : ℕ) (a : A) → run r s m ≡ accepted m' a → (k : ℕ) × (run r s 0 ≡ accepted k a)
  from_zero r s m m' a e = go (run r s 0) refl (sym (run_raised r s m) ∙ e)
    where
      go : (o : Outcome A) → run r s 0 ≡ o → raised m o ≡ accepted m' a → (k : ℕ) × (run r s 0 ≡ accepted k a)
      go (accepted k b) q w = let p : b ≡ a = unfold raised in cc in (k, q ∙ ap (λ (x : A). accepted k x) p)
      go (refused n) q w = let z : ◌≡◌ {A = ℕ} 0 1 = unfold raised in cc in absurd (omega arith)

module _ {A B : Type 0} (f : A → Reader B) (s : List ℕ) where
  -- a list of readers that is accepted has read each of its items
  pub each_read : (xs : List A) (m m' : ℕ) (ys : List B) → run (each f xs) s m ≡ accepted m' ys
      → (length ys ≡ length xs) × ((i : ℕ) (d : A) (d' : B) → i < length xs → (k : ℕ) × (run (f (get_or xs i d)) s 0 ≡ accepted k (get_or ys i d')))
  unfolding each run
  each_read [] m m' ys e = let q : ys ≡ [] = cc in (ap length q, λ i d d' h. absurd (omega arith))
  each_read (x ∷ xs) m m' ys e =
      let w = accepted_first (f x) (λ y. bind (each f xs) (λ zs. done (y ∷ zs))) s m m' ys e in
      let v = accepted_first (each f xs) (λ zs. done (w.1 ∷ zs)) s w.0 m' ys w.3 in
      let q : ys ≡ w.1 ∷ v.1 = cc in
      let ih = each_read xs w.0 v.0 v.1 v.2 in
      let h = from_zero (f x) s m w.0 w.1 w.2 in
      (ap length q ∙ ap suc ih.0, λ i d d' l. subst (λ (zs : List B). (k : ℕ) × (run (f (get_or (x ∷ xs) i d)) s 0 ≡ accepted k (get_or zs i d'))) (sym q) (pick_item i d d' x xs w.1 v.1 h ih.1 l))
    where
      pick_item : (i : ℕ) (d : A) (d' : B) (x : A) (xs : List A) (y : B) (zs : List B) → (k : ℕ) × (run (f x) s 0 ≡ accepted k y)
          → ((i : ℕ) (d : A) (d' : B) → i < length xs → (k : ℕ) × (run (f (get_or xs i d)) s 0 ≡ accepted k (get_or zs i d'))) → i < suc (length xs)
          → (k : ℕ) × (run (f (get_or (x ∷ xs) i d)) s 0 ≡ accepted k (get_or (y ∷ zs) i d'))
      pick_item zero d d' x xs y zs h g l = h
      pick_item (suc i) d d' x xs y zs h g l = g i d d' (omega arith)

  -- where P holds of every item, Q holds of every value that is read
  pub each_gives : (P : A → Type 0) (Q : B → Type 0) → ((x : A) (m j : ℕ) (y : B) → P x → run (f x) s m ≡ accepted j y → Q y)
      → (xs : List A) (m j : ℕ) (ys : List B) → Each P xs → run (each f xs) s m ≡ accepted j ys → Each Q ys
  unfolding each run
  each_gives P Q g [] m j ys h e = let q : [] ≡ ys = cc in subst (Each Q) q tt
  each_gives P Q g (x ∷ xs) m j ys h e =
      let w = accepted_first (f x) (λ y. bind (each f xs) (λ zs. done (y ∷ zs))) s m j ys e in
      let v = accepted_first (each f xs) (λ zs. done (w.1 ∷ zs)) s w.0 j ys w.3 in
      let q : w.1 ∷ v.1 ≡ ys = cc in
      subst (Each Q) q (g x m w.0 w.1 h.0 w.2, each_gives P Q g xs w.0 v.0 v.1 h.1 v.2)

-- ---- the readers of items that stand in the section at a position, followed by index

module _ {A B : Type 0} (f : A → Reader B) (s : List ℕ) (size : ℕ) (read : List ℕ → A) (at count : ℕ) (d : A) where
  abbrev items : List A
  items = view size read count (drop at s)

  item_count : length items ≡ count
  item_count = view-length size read count (drop at s)

  module _ (g : B → ℕ) where
    -- what is left from item i on, after parts that reach as far as m and a count of c
    abbrev pub items_left : ℕ → ℕ → ℕ → Outcome ℕ
    items_left i m c = rest g f s items d i m c

    -- from the first on, with nothing counted yet, that is all of them
    pub items_all : (m : ℕ) → items_left 0 m 0 ≡ tally_of (total g) (run (each f items) s m)
    items_all m = from_none g (run (each f items) s m)

    pub items_end : (i m c : ℕ) → count ≤ i → accepted m c ≡ items_left i m c
    items_end i m c h = sym (all g f s items d i m c (rw item_count h))

    -- x is item i, and r what code answers of its reader
    module _ (i m c : ℕ) (h : i < count) (x : A) (e : x ≡ read (take size (drop (at + size * i) s))) (r : Outcome ℕ) (q : r ≡ tally_of g (run (f x) s m)) where
      item_tally : tally_of g (run (f (get_or items i d)) s m) ≡ r
      item_tally = rw (view_there size read count i at s d h, ← e) (sym q)

      -- it is whole: go on; or it is refused, and so are the items
      pub item_whole : (j k : ℕ) → r ≡ accepted j k → items_left (i + 1) j (c + k) ≡ items_left i m c
      item_whole j k w = sym (next g f s items d i m c j k (rw item_count h) (item_tally ∙ w))

      pub item_refused : (n : ℕ) → r ≡ refused n → refused n ≡ items_left i m c
      item_refused n w = sym (ended g f s items d i m c n (rw item_count h) (item_tally ∙ w))

    -- what code answers that follows them all, where `post` says what it may answer of one
    pub follow_all : (post : ℕ → ℕ → Result Tally Refusal → Type 0)
        → ((i m : ℕ) (x : Result Tally Refusal) → i < count → post i m x → outcome tallied x ≡ tally_of g (run (f (read (take size (drop (at + size * i) s)))) s m))
        → (m : ℕ) (r : Result Tally Refusal) → ((left : ℕ → ℕ → ℕ → Outcome ℕ) → Follows post count left → outcome tallied r ≡ left 0 m 0)
        → outcome tallied r ≡ tally_of (total g) (run (each f items) s m)
    follow_all post h m r e =
        e items_left
        (record {
          whole = λ i m c t l p. item_whole i m c l _ refl _ (h i m (Ok t) l p) t.reach t.samples refl;
          ended = λ i m c x l p. item_refused i m c l _ refl _ (h i m (Err x) l p) (number_of x) refl;
          none = λ m c. items_end count m c (omega arith);
        })
        ∙ items_all m

  -- items that are accepted have each been read
  pub items_read : (m : ℕ) (ys : List B) → run (each f items) s 0 ≡ accepted m ys
      → (length ys ≡ count) × ((i : ℕ) (d' : B) → i < count → (k : ℕ) × (run (f (read (take size (drop (at + size * i) s)))) s 0 ≡ accepted k (get_or ys i d')))
  items_read m ys e =
      let w = each_read f s items 0 m ys e in
      (w.0 ∙ item_count, λ i d' h. let k = w.1 i d d' (rw item_count h) in (k.0, rw (view_there size read count i at s d h) at k.1))
