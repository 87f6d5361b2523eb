-- The info block's run, by what the section holds. Assumes nothing.
use Prim.Native.Nat.{ℕ, ◌+◌, ◌*◌, max, ◌≤◌, ◌<◌}
use mathlib.Core.Bool.{Bool, true, false}
use mathlib.Core.List.{List}
use mathlib.Core.Logic.{⊎_elim}
use mathlib.Core.Path.{◌≡◌, refl, subst}
use native.Mathlib.Omega.{arith}
use borrow.Author.Tests.{eq-eqb, ne_eqb, eqb-true, eqb-false}
use lib.Dec.{eqb}
use lib.ListN.{length, drop, length-drop}
use Rattle.util.specs.View.{word_at}
use Rattle.util.specs.Reader.{accepted, refused, run, bind, unless}
use Rattle.util.proofs.All.{Each}
use Rattle.util.proofs.Cut.{le_or_lt, had, past, short, over, to}
use Rattle.util.proofs.Fields.{view_sized}
use Rattle.util.proofs.ViewLaws.{view-take, view-length}
use Rattle.util.proofs.ReadsLaws.{one_value, not_both}
use Rattle.info_block.specs.declared.InfoBlock.{InfoBlock}
use Rattle.info_block.specs.InfoBlock.{Block, info_block}
use Rattle.info_block.specs.InfoBlockCode.{block_at}

module _ (p size : ℕ) (s : List ℕ) (reach : ℕ) where
  -- where the lists stand, for a count
  abbrev pub placed : ℕ → InfoBlock
  placed c = record { count = c; datums = p + 12 + 4 * c + 4; names = p + 12 + 4 * c + 4 + size * c; end = p + 12 + 4 * c + 4 + size * c + 16 * c }

  pub header_short : length s < p + 12 → run (info_block p size) s reach ≡ refused 2
  unfolding run bind info_block
  header_short h = past _ _ _ (past _ _ _ (past _ _ _ (past _ _ _ (past _ _ _ (short _ _ _ (omega arith))))))

  module _ (c : ℕ) (e : word_at 1 s (p + 1) ≡ c) where
    pub lists_short : length s < (placed c).end → run (info_block p size) s reach ≡ refused 2
    unfolding run bind info_block
    lists_short h =
        rw e
        (past _ _ _ (past _ _ _ (past _ _ _ (past _ _ _ (past _ _ _ (past _ _ _ (past _ _ _ (past _ _ _ (past _ _ _ (past _ _ _ (short _ _ _ (omega arith))))))))))))

    module _ (h : (placed c).end ≤ length s) where
      pub not_zero : (word_at 1 s p ≡ 0 → ⊥) → run (info_block p size) s reach ≡ refused 3
      unfolding run bind info_block unless
      not_zero d =
          rw (e, ne_eqb (word_at 1 s p) 0 d)
          (had _ _ _ _ (omega arith) (had _ _ _ _ (omega arith) (had _ _ _ _ (omega arith) (had _ _ _ _ (omega arith) (had _ _ _ _ (omega arith) (had _ _ _ _ (omega arith) (had _ _ _ _ (omega arith) (had _ _ _ _ (omega arith) (had _ _ _ _ (omega arith) (had _ _ _ _ (omega arith) (had _ _ _ _ (omega arith) refl)))))))))))

      pub wrong_size : word_at 1 s p ≡ 0 → (word_at 2 s (p + 12 + 4 * c) ≡ size → ⊥) → run (info_block p size) s reach ≡ refused 4
      unfolding run bind info_block unless
      wrong_size z d =
          rw (e, eq-eqb (word_at 1 s p) 0 z, ne_eqb (word_at 2 s (p + 12 + 4 * c)) size d)
          (had _ _ _ _ (omega arith) (had _ _ _ _ (omega arith) (had _ _ _ _ (omega arith) (had _ _ _ _ (omega arith) (had _ _ _ _ (omega arith) (had _ _ _ _ (omega arith) (had _ _ _ _ (omega arith) (had _ _ _ _ (omega arith) (had _ _ _ _ (omega arith) (had _ _ _ _ (omega arith) (had _ _ _ _ (omega arith) refl)))))))))))

      pub whole : word_at 1 s p ≡ 0 → word_at 2 s (p + 12 + 4 * c) ≡ size → run (info_block p size) s reach ≡ accepted (max reach (placed c).end) (block_at s size (placed c))
      unfolding run bind info_block unless
      whole z d =
          rw (e, eq-eqb (word_at 1 s p) 0 z, eq-eqb (word_at 2 s (p + 12 + 4 * c)) size d, view-take size (λ bs. bs) c (drop (placed c).datums s), view-take 16 (λ bs. bs) c (drop (placed c).names s))
          (had _ _ _ _ (omega arith) (had _ _ _ _ (omega arith) (had _ _ _ _ (omega arith) (had _ _ _ _ (omega arith) (had _ _ _ _ (omega arith) (had _ _ _ _ (omega arith) (had _ _ _ _ (omega arith) (had _ _ _ _ (omega arith) (had _ _ _ _ (omega arith) (had _ _ _ _ (omega arith) (had _ _ _ _ (omega arith) (to _ _ _ (over _ _ _ _ (omega arith) (over _ _ _ _ (omega arith) (over _ _ _ _ (omega arith) (over _ _ _ _ (omega arith) (over _ _ _ _ (omega arith) (over _ _ _ _ (omega arith) (over _ _ _ _ (omega arith) (over _ _ _ _ (omega arith) (over _ _ _ _ (omega arith) (over _ _ _ _ (omega arith) refl))))))))))))))))))))))

-- ---- what is accepted

-- a block that has as many datums and names as it counts, each of its own size
pub record Even (size : ℕ) (b : Block) : Type 0 where
  pub datums : length b.datums ≡ b.count
  pub names : length b.names ≡ b.count
  pub sized : Each (λ x. length x ≡ size) b.datums
  pub sixteen : Each (λ x. length x ≡ 16) b.names

-- where its lists stand
abbrev pub stood : ℕ → ℕ → List ℕ → InfoBlock
stood p size s = placed p size s 0 (word_at 1 s (p + 1))

module _ (p size : ℕ) (s : List ℕ) (m j : ℕ) (b : Block) (e : run (info_block p size) s m ≡ accepted j b) where
  block_inside : (stood p size s).end ≤ length s
  block_inside = ⊎_elim (λ (h : (stood p size s).end ≤ length s). h) (λ (h : length s < (stood p size s).end). absurd (not_both e (lists_short p size s m _ refl h))) (le_or_lt (stood p size s).end (length s))

  -- it is the block that stands there
  pub block_is : block_at s size (stood p size s) ≡ b
  block_is = go (eqb (word_at 1 s p) 0) (eqb (word_at 2 s (p + 12 + 4 * (stood p size s).count)) size) refl refl
    where
      go : (x y : Bool) → eqb (word_at 1 s p) 0 ≡ x → eqb (word_at 2 s (p + 12 + 4 * (stood p size s).count)) size ≡ y → block_at s size (stood p size s) ≡ b
      go true true q r = one_value (whole p size s m _ refl block_inside (eqb-true _ _ q) (eqb-true _ _ r)) e
      go true false q r = absurd (not_both e (wrong_size p size s m _ refl block_inside (eqb-true _ _ q) (eqb-false _ _ r)))
      go false y q r = absurd (not_both e (not_zero p size s m _ refl block_inside (eqb-false _ _ q)))

  pub block_even : Even size b
  block_even =
      let h = block_inside in
      let w = stood p size s in
      subst (Even size) block_is
      (record {
        datums = view-length size (λ x. x) w.count (drop w.datums s);
        names = view-length 16 (λ x. x) w.count (drop w.names s);
        sized = view_sized size w.count (drop w.datums s) (simp length-drop (omega arith));
        sixteen = view_sized 16 w.count (drop w.names s) (simp length-drop (omega arith));
      })
