use Prim.Native.Nat.{ℕ, ◌+◌, ◌*◌}
use mathlib.Core.List.{[]}
use mathlib.Core.Path.{◌≡◌}
use native.Mathlib.Omega.{arith}
use borrow.Author.Rules.{rules}
use Rattle.util.specs.Reader.{accepted, run}
use Rattle.util.specs.ReaderCode.{tally_of}
use Rattle.util.proofs.Each.{follow_all}
use Rattle.material_animation.specs.MaterialAnimation.{track_samples, channels}
use Rattle.material_animation.specs.MaterialAnimationCode.{track_at}
use Rattle.material_animation.proofs.FiniteLaws.{track_few}
use Rattle.material_animation.proofs.follow_tracks.Goals as goal

-- `material_animation::follow_tracks` meets its contract. Assumes nothing.
-- a track's lists are short, so the sum is far from wrapping
pub follow-requires-clause-short : goal.follow-requires-clause-short
follow-requires-clause-short c = λ i m t l p.
    let a = c.args in
    let at = a.block.datums + 40 * i in
    let e : accepted t.reach t.samples ≡ tally_of track_samples (run (channels (track_at a.s.now at)) a.s.now m) = search rules in
    let k = track_few a.s.now (λ (i : ℕ). omega (arith, c.type_inv.s i)) at m t.reach t.samples e in
    omega arith

pub returns : goal.returns
returns c =
    let a = c.args in
    follow_all channels a.s.now 40 (λ bs. bs) a.block.datums a.block.count [] track_samples _ (λ i m x l p. search rules) a.reach _ c.follow.ensures
