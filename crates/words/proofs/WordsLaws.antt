-- The words of a name, and a verdict that is another's. Assumes nothing.
use Prim.Native.Nat.{ℕ, ◌^◌, ◌<◌}
use mathlib.Core.List.{List, ◌∷◌}
use mathlib.Core.Path.{◌≡◌, sym, ap, subst, ◌∙◌}
use native.Mathlib.Omega.{arith}
use lib.ListN.{take}
use lib.Seq.{sets, take_at, drop_at, take_all}
use Rattle.util.specs.View.{little, little_bytes, word_at}
use Rattle.util.specs.Reader.{Verdict}
use Rattle.util.proofs.ViewLaws.{length-little, little-little}
use Rattle.info_block.specs.declared.name.Name.{Name as CodeName}
use Rattle.info_block.specs.NameCode.{name_means}
use Rattle.words.specs.Words.{Writes}

-- ---- a name's words

name_lo : (n : CodeName) → n.lo < 2 ^ 64 → word_at 8 (name_means n) 0 ≡ n.lo
name_lo n h = ap little (take_at (little_bytes 8 n.lo) (little_bytes 8 n.hi) 8 (length-little 8 n.lo)) ∙ little-little 8 n.lo h

name_hi : (n : CodeName) → n.hi < 2 ^ 64 → word_at 8 (name_means n) 8 ≡ n.hi
name_hi n h =
    ap (λ (l : List ℕ). little (take 8 l)) (drop_at (little_bytes 8 n.lo) (little_bytes 8 n.hi) 8 (length-little 8 n.lo))
    ∙ (ap little (take_all 8 (little_bytes 8 n.hi) (rw (length-little 8 n.hi) (omega arith))) ∙ little-little 8 n.hi h)

pub name_words_lem : (n : CodeName) → n.lo < 2 ^ 64 → n.hi < 2 ^ 64 → (before rest : List ℕ)
    → sets before 0 (n.lo ∷ n.hi ∷ rest) ≡ sets before 0 (word_at 8 (name_means n) 0 ∷ word_at 8 (name_means n) 8 ∷ rest)
name_words_lem n h l before rest =
    ap (λ (x : ℕ). sets before 0 (x ∷ n.hi ∷ rest)) (sym (name_lo n h)) ∙ ap (λ (x : ℕ). sets before 0 (word_at 8 (name_means n) 0 ∷ x ∷ rest)) (sym (name_hi n l))

-- ---- a verdict that is another's

pub written_as : {A T : Type 0} {items : A → List T} {v v' : Verdict A} {r : ℕ} {before after : List T} → v ≡ v' → Writes items v r before after → Writes items v' r before after
written_as {items} {r} {before} {after} e w = subst (λ x. Writes items x r before after) e w
