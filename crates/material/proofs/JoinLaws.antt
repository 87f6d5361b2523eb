-- What both sides have of a name, together, by what was found on each. Assumes nothing.
use Prim.Native.Nat.{ℕ}
use mathlib.Core.Bool.{Bool, true, false, true≢false}
use mathlib.Core.List.{List}
use mathlib.Core.Option.{Option, none, some}
use mathlib.Core.Path.{◌≡◌, refl, sym, ap}
use lib.Ieee.{of_bits, binary64}
use Rattle.std.specs.Prelude.{Some, None, Option as CodeOption}
use Rattle.std.specs.Option.{is_some, unwrap_or, option_eq, option_map, option_flatten, MatchOption, IsSomeAnd}
use Rattle.util.specs.Reader.{answered, denied}
use Rattle.material_animation.specs.declared.Shift.{Shift as CodeShift}
use Rattle.material_animation.specs.MaterialAnimation.{Shift}
use Rattle.material_animation.specs.MaterialAnimationCode.{shift_means}
use Rattle.pattern.specs.declared.PatternKeyframe.{PatternKeyframe}
use Rattle.pattern.specs.Pattern.{Key}
use Rattle.pattern.specs.PatternCode.{key_means, KeyIs}
use Rattle.calls.specs.declared.Choice.{Choice as CodeChoice}
use Rattle.calls.specs.AnswersCode.{found, material_means}
use Rattle.calls.specs.Calls.{chosen_of}
use Rattle.calls.specs.Material.{joined}
use Rattle.calls.proofs.CallsLaws.{some_chosen}

-- the choice of a key
abbrev pub picked : PatternKeyframe → CodeChoice
picked k = record { texture = k.texture_idx; palette = k.palette_idx }

-- .. of what is found
pub mapped : (P : PatternKeyframe → CodeChoice → Type 0) (key : CodeOption PatternKeyframe) (choice : CodeOption CodeChoice) → MatchOption key (choice ≡ None) (λ k. IsSomeAnd choice (P k))
    → ((k : PatternKeyframe) (c : CodeChoice) → P k c → c ≡ picked k) → choice ≡ option_map picked key
mapped P None choice h f = h
mapped P (Some k) None h f = absurd h
mapped P (Some k) (Some c) h f = ap Some (f k c h)

abbrev no_move : CodeShift
no_move = record { u = of_bits binary64 0; v = of_bits binary64 0 }

-- `same` is how two keys are compared, which is never asked here
module _ (frame : ℕ) (keys : Option (List Key)) (same : PatternKeyframe → PatternKeyframe → Bool) where
  -- whether the pattern has such a track, without keys
  abbrev is_empty : CodeOption (CodeOption PatternKeyframe) → Bool
  is_empty key = option_eq (option_eq same) key (Some None)

  -- it has
  pub empty : (m : Option Shift) (key : CodeOption (CodeOption PatternKeyframe)) → KeyIs keys frame key → is_empty key ≡ true → denied 10 ≡ joined frame m keys
  unfolding joined chosen_of
  empty none (Some None) w p = rw w refl
  empty (some x) (Some None) w p = rw w refl
  empty m (Some (Some k)) w p = absurd (true≢false (sym p))
  empty m None w p = absurd (true≢false (sym p))

  -- it has no such track, and the other side neither
  pub neither : (shift : CodeOption CodeShift) (key : CodeOption (CodeOption PatternKeyframe)) → KeyIs keys frame key → is_empty key ≡ false → is_some shift ≡ false → is_some (option_flatten key) ≡ false
      → denied 14 ≡ joined frame (found shift_means shift) keys
  unfolding joined
  neither None None w e p q = rw w refl
  neither (Some m) key w e p q = absurd (true≢false p)
  neither None (Some (Some k)) w e p q = absurd (true≢false q)
  neither None (Some None) w e p q = absurd (true≢false e)

  -- one side has something
  pub one : (shift : CodeOption CodeShift) (key : CodeOption (CodeOption PatternKeyframe)) (choice : CodeOption CodeChoice) → KeyIs keys frame key → is_empty key ≡ false
      → choice ≡ option_map picked (option_flatten key) → (is_some shift ≡ false → is_some choice ≡ false → ⊥)
      → answered (material_means (record { shift = unwrap_or shift no_move; choice = choice })) ≡ joined frame (found shift_means shift) keys
  unfolding joined of_bits
  one shift (Some None) choice w e p h = absurd (true≢false e)
  one None None choice w e p h = absurd (h refl (ap is_some p))
  one (Some m) None choice w e p h = rw (p, w) refl
  one None (Some (Some k)) choice w e p h = rw (p, w.there, some_chosen w.all frame (key_means k) w.some_key w.chosen) refl
  one (Some m) (Some (Some k)) choice w e p h = rw (p, w.there, some_chosen w.all frame (key_means k) w.some_key w.chosen) refl
