use Prim.Native.Nat.{ℕ, ◌*◌, ◌/◌}
use mathlib.Core.Bool.{◌&&◌}
use mathlib.Core.Path.{ap}
use lib.Dec.{eqb}
use lib.ListN.{length}
use Rattle.writing.proofs.check.whole.Goals as goal

-- `writing::check::whole` meets its contract. Assumes nothing.
pub returns : goal.returns
returns c =
    let a = c.args in
    let t = length a.textures.now in
    let p = length a.palettes.now in
    let k = length a.tracks.now in
    ap (λ (n : ℕ). eqb t (16 * (t / 16)) && (eqb p (16 * (p / 16)) && (eqb k (20 * (k / 20)) && eqb (length a.keys.now) (4 * n)))) c.key_total-sum.ensures.0
