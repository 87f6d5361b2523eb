-- Names handed out, compared and found. Assumes nothing.
use Prim.Native.Nat.{ℕ, suc, ◌+◌, ◌*◌, ◌^◌, ◌≤◌, ◌<◌}
use mathlib.Core.Bool.{Bool, true, false, false≢true}
use mathlib.Core.List.{List, [], ◌∷◌}
use mathlib.Core.Option.{some}
use mathlib.Core.Path.{◌≡◌, refl, sym, ap, ◌∙◌}
use native.Mathlib.Numerals.{add-one}
use native.Mathlib.Omega.{arith}
use borrow.Author.Tests.{lt-ltb, le-ltb}
use lib.ListN.{length, take, drop, get_or, length-take, drop_of_length-le}
use lib.Seq.{drop-drop, get_or-take, get_or-drop, take-add, take_at, drop_at}
use Rattle.std.specs.Prelude.{Option as CodeOption, Some, None, MatchOption}
use Rattle.util.specs.View.{little, little_bytes, word_at, view}
use Rattle.util.specs.Reader.{answered, denied}
use Rattle.util.proofs.All.{Bytes, word_bytes}
use Rattle.util.proofs.ViewLaws.{length-little, little-little, view-length, view_there}
use Rattle.info_block.specs.declared.InfoBlock.{InfoBlock}
use Rattle.info_block.specs.declared.name.Name.{Name as CodeName}
use Rattle.info_block.specs.Name.{Name, equal, earliest, Named, name_among}
use Rattle.info_block.specs.NameCode.{name_means, found}
use Rattle.info_block.proofs.EarliestLaws.{earliest_name}
use Rattle.info_block.proofs.EqualLaws.{equal_names, equal_differ, equal_ends, equal_goes_on, equal_from}

-- ---- a name's two words

-- the words at p are the name that stands there
pub words_mean : (s : List ℕ) (p : ℕ) → Bytes s → p + 16 ≤ length s → (n : CodeName) → n.lo ≡ word_at 8 s p → n.hi ≡ word_at 8 s (p + 8) → name_means n ≡ take 16 (drop p s)
words_mean s p b h n lo hi =
    rw (lo, hi, word_bytes 8 s p b (omega arith), word_bytes 8 s (p + 8) b (omega arith), ← drop-drop 8 p s) (sym (take-add 8 8 (drop p s)))

-- words that mean the same name are the same
pub names_apart : (a b : CodeName) → a.lo < 2 ^ 64 → a.hi < 2 ^ 64 → b.lo < 2 ^ 64 → b.hi < 2 ^ 64 → name_means a ≡ name_means b → a ≡ b
names_apart a b al ah bl bh e = λ i. record { lo = word a.lo b.lo al bl first i; hi = word a.hi b.hi ah bh second i }
  where
    word : (x y : ℕ) → x < 2 ^ 64 → y < 2 ^ 64 → little_bytes 8 x ≡ little_bytes 8 y → x ≡ y
    word x y h l q = sym (little-little 8 x h) ∙ (ap little q ∙ little-little 8 y l)

    first : little_bytes 8 a.lo ≡ little_bytes 8 b.lo
    first = sym (take_at _ (little_bytes 8 a.hi) 8 (length-little 8 a.lo)) ∙ (ap (take 8) e ∙ take_at _ (little_bytes 8 b.hi) 8 (length-little 8 b.lo))

    second : little_bytes 8 a.hi ≡ little_bytes 8 b.hi
    second = sym (drop_at (little_bytes 8 a.lo) _ 8 (length-little 8 a.lo)) ∙ (ap (drop 8) e ∙ drop_at (little_bytes 8 b.lo) _ 8 (length-little 8 b.lo))

-- ---- names that stand one after the other

module _ (s : List ℕ) (names count : ℕ) where
  abbrev pub all : List Name
  all = view 16 (λ bs. bs) count (drop names s)

  all_length : length all ≡ count
  all_length = view-length 16 (λ bs. bs) count (drop names s)

  name_at_lem : (i : ℕ) → i < count → get_or all i [] ≡ take 16 (drop (names + 16 * i) s)
  name_at_lem i h = view_there 16 (λ bs. bs) count i names s [] h

-- ---- the names of an entry's info block

module _ (s : List ℕ) (off : ℕ) (b : InfoBlock) (i : ℕ) where
  abbrev names : List Name
  names = all (drop off s) b.names b.count

  pub name_past : b.count ≤ i → denied 9 ≡ name_among names i
  name_past h = let l : length names ≤ i = rw (all_length (drop off s) b.names b.count) h in rw (le-ltb i (length names) l) refl

  pub name_there : i < b.count → (n : Name) → n ≡ take 16 (drop (off + (b.names + 16 * i)) s) → answered n ≡ name_among names i
  name_there h n e =
      let l : i < length names = rw (all_length (drop off s) b.names b.count) h in
      rw (lt-ltb i (length names) l, name_at_lem (drop off s) b.names b.count i h, drop-drop (b.names + 16 * i) off s) (ap answered e)

-- ---- a name and the one at p, from byte k on

module _ (a s : List ℕ) (p : ℕ) where
  abbrev pub equal_rest : ℕ → Bool
  equal_rest j = equal (drop j a) (drop j (take 16 (drop p s)))

  module _ (k : ℕ) (h : k < 16) where
    byte_of : get_or (take 16 (drop p s)) k 0 ≡ get_or s (p + k) 0
    byte_of = get_or-take 16 (drop p s) k 0 h ∙ get_or-drop p s k 0

    rest : equal_rest k ≡ equal (get_or a k 0 ∷ drop (suc k) a) (get_or s (p + k) 0 ∷ drop (suc k) (take 16 (drop p s)))
    rest = equal_from a (take 16 (drop p s)) k ∙ ap (λ (y : ℕ). equal (get_or a k 0 ∷ drop (suc k) a) (y ∷ drop (suc k) (take 16 (drop p s)))) byte_of

    pub rest_differ : (get_or a k 0 ≡ get_or s (p + k) 0 → ⊥) → equal_rest k ≡ false
    rest_differ e = rest ∙ equal_differ _ _ _ _ e

    pub rest_ends : get_or a k 0 ≡ get_or s (p + k) 0 → get_or a k 0 ≡ 0 → equal_rest k ≡ true
    rest_ends e z = rest ∙ equal_ends _ _ _ _ e z

    pub rest_goes_on : get_or a k 0 ≡ get_or s (p + k) 0 → (get_or a k 0 ≡ 0 → ⊥) → equal_rest k ≡ equal_rest (k + 1)
    rest_goes_on e z = rest ∙ (equal_goes_on _ _ _ _ e z ∙ ap equal_rest (sym (add-one k)))

  -- nothing is left
  pub rest_none : (k : ℕ) → length a ≡ 16 → 16 ≤ k → equal_rest k ≡ true
  rest_none k l h =
      let n : length a ≤ k = omega arith in
      let m : length (take 16 (drop p s)) ≤ k = omega (arith, length-take 16 (drop p s)) in
      rw (drop_of_length-le a n, drop_of_length-le (take 16 (drop p s)) m) (equal_names.reflexive [])

-- ---- a name among names

module _ (s : List ℕ) (names count : ℕ) (name : Name) where
  -- whether the name that stands at index i is this one
  abbrev pub is_at : ℕ → Bool → Type 0
  is_at i b = b ≡ equal name (take 16 (drop (names + 16 * i) s))

  named : (i : ℕ) → i < count → (b : Bool) → is_at i b → b ≡ equal name (get_or (all s names count) i [])
  named i h b e = e ∙ ap (equal name) (sym (name_at_lem s names count i h))

  differ : (i : ℕ) → i < count → is_at i false → Named name (all s names count) i → ⊥
  differ i h e n = false≢true (named i h false e ∙ n.1)

  -- the first index whose name is this one, or none
  pub found_first : (r : CodeOption ℕ) → MatchOption r ((k : ℕ) → 0 ≤ k → k < count → is_at k false) (λ i. (0 ≤ i) × (i < count) × is_at i true × ((k : ℕ) → 0 ≤ k → k < i → is_at k false))
      → found (λ i. i) r ≡ earliest name (all s names count)
  found_first None h =
      sym ((earliest_name.nothing name (all s names count)).1 (λ k n. let l : k < count = omega (arith, all_length s names count, n.0) in differ k l (h k (omega arith) l) n))
  found_first (Some i) h =
      let l : i < count = h.1 in
      sym ((earliest_name.found name (all s names count) i).1 ((omega (arith, all_length s names count), sym (named i l true h.2)), λ k q n. differ k (omega arith) (h.3 k (omega arith) q) n))

-- the one that is found is one of them
pub found_below : (s : List ℕ) (names count : ℕ) (name : Name) (i : ℕ) → some i ≡ earliest name (all s names count) → i < count
found_below s names count name i e = let l = (earliest_name.found name (all s names count) i).0 (sym e) in omega (arith, all_length s names count, l.0.0)
