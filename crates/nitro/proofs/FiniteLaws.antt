-- What an entry of each kind holds is so large at most that no entry of a matrix is a NaN or an infinity, and so few that all its lists
-- together have fewer than 2^40 values. Assumes nothing.
use Prim.Native.Nat.{ℕ, ◌<◌, ◌≤◌}
use native.Mathlib.Omega.{arith}
use Rattle.util.proofs.All.{All, all_bind, all_after, all_within}
use Rattle.util.proofs.SumsLaws.{entry_bound}
use Rattle.animation.specs.Animation.{most_objects}
use Rattle.animation.proofs.FiniteLaws.{SizedAnimation, animation_all, animation_few}
use Rattle.material_animation.proofs.FiniteLaws.{SizedMaterial, material_all, material_few}
use Rattle.pattern.proofs.FewLaws.{FewPattern, pattern_all, pattern_few}
use Rattle.nitro.specs.Container.{Kind, jnt, srt, pat, Value, value, entry_in, entry, count_of, samples_of}

-- what an entry of each kind holds
abbrev pub SizedValue : (k : Kind) → Value k → Type 0
SizedValue jnt a = SizedAnimation a
SizedValue srt a = SizedMaterial a
SizedValue pat a = FewPattern a

-- no more objects than are accepted, and fewer tracks than that
pub count_few : (k : Kind) (v : Value k) → SizedValue k v → count_of k v ≤ most_objects
count_few jnt v h = h.0
count_few srt v h = let l = h.0 in omega arith
count_few pat v h = let l = h.0 in omega arith

pub samples_few : (k : Kind) (v : Value k) → SizedValue k v → samples_of k v < entry_bound
samples_few jnt v h = animation_few v h
samples_few srt v h = material_few v h
samples_few pat v h = pattern_few v h

pub entry_all : (k : Kind) (i : ℕ) → All (λ e. SizedValue k e.held) (entry k i)
unfolding entry entry_in
entry_all k i =
    all_after _ _ _ λ block.
    all_after _ _ _ λ _.
    all_bind (SizedValue k) _ _ _ (all_within (SizedValue k) _ (value k) (value_all k)) λ v h. h
  where
    value_all : (k : Kind) → All (SizedValue k) (value k)
    value_all jnt = animation_all
    value_all srt = material_all
    value_all pat = pattern_all
