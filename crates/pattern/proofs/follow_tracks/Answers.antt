use Prim.Native.Nat.{ℕ, ◌+◌, ◌*◌}
use mathlib.Core.List.{[]}
use mathlib.Core.Path.{◌≡◌}
use native.Mathlib.Omega.{arith}
use borrow.Author.Rules.{rules}
use lib.ListN.{take, drop}
use Rattle.util.specs.Reader.{accepted, run}
use Rattle.util.specs.ReaderCode.{tally_of}
use Rattle.util.proofs.Each.{follow_all}
use Rattle.pattern.specs.Pattern.{key_count, track}
use Rattle.pattern.proofs.FewLaws.{track_few}
use Rattle.pattern.proofs.follow_tracks.Goals as goal

-- `pattern::follow_tracks` meets its contract. Assumes nothing.
-- a track's keys are counted in four bytes, so the sum is far from wrapping
pub follow-requires-clause-short : goal.follow-requires-clause-short
follow-requires-clause-short c = λ i m t l p.
    let a = c.args in
    let at = a.block.datums + 8 * i in
    let e : accepted t.reach t.samples ≡ tally_of key_count (run (track a.textures a.palettes (take 8 (drop at a.s.now))) a.s.now m) = search rules in
    let k = track_few a.textures a.palettes a.s.now (λ (i : ℕ). omega (arith, c.type_inv.s i)) at m t.reach t.samples e in
    omega arith

pub returns : goal.returns
returns c =
    let a = c.args in
    follow_all (track a.textures a.palettes) a.s.now 8 (λ bs. bs) a.block.datums a.block.count [] key_count _ (λ i m x l p. search rules) a.reach _ c.follow.ensures
