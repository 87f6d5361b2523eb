use mathlib.Core.Path.{refl}
use native.Mathlib.Omega.{arith}
use Rattle.std.proofs.lemmas.Result.{err_from_is_err_and}
use Rattle.material_animation.proofs.MaterialLaws.{entry_short, block_refused, tracks_refused, tracks_whole}
use Rattle.material_animation.proofs.read_mat_anim.Goals as goal

-- `material_animation::read_mat_anim` meets its contract. Assumes nothing.
pub returns-then-s-lt8 : goal.returns-then-s-lt8
returns-then-s-lt8 c = entry_short _ c.if-s-lt8.true

pub returns-in_err-block : goal.returns-in_err-block
returns-in_err-block c =
    let p = err_from_is_err_and c.from_residual.result c.from_residual.ensures.1 in
    rw (p.1, p.2) (block_refused c.args.s.now c.if-s-lt8.false _ (c.in_err-block.ensures 8))

pub returns-in_err-tracks : goal.returns-in_err-tracks
returns-in_err-tracks c =
    let p = err_from_is_err_and c.from_residual-in_err-tracks.result c.from_residual-in_err-tracks.ensures.1 in
    rw (p.1, p.2) (tracks_refused c.args.s.now c.if-s-lt8.false _ c.in_ok-block.ensures _ c.in_err-tracks.ensures _ refl)

pub returns : goal.returns
returns c = tracks_whole c.args.s.now c.if-s-lt8.false _ c.in_ok-block.ensures _ c.in_ok-tracks.ensures _ _ _ refl c.word16.ensures

pub follow_tracks-requires : goal.follow_tracks-requires
follow_tracks-requires c = let b = (c.in_ok-block.ensures 0).holds in (omega arith, b.few)
