use mathlib.Core.Path.{sym}
use Rattle.std.proofs.lemmas.Result.{err_from_is_err_and}
use Rattle.material_animation.proofs.MaterialLaws.{track_no_u, track_no_v, track_whole}
use Rattle.material_animation.proofs.follow_channels.Goals as goal

-- `material_animation::follow_channels` meets its contract. Assumes nothing.
pub returns-in_err-u : goal.returns-in_err-u
returns-in_err-u c =
    let a = c.args in
    let p = err_from_is_err_and c.from_residual.result c.from_residual.ensures.1 in
    rw (p.1, p.2) (sym (track_no_u a.s.now a.track a.reach _ c.in_err-u.ensures.reads))

pub returns-in_err-v : goal.returns-in_err-v
returns-in_err-v c =
    let a = c.args in
    let p = err_from_is_err_and c.from_residual-in_err-v.result c.from_residual-in_err-v.ensures.1 in
    rw (p.1, p.2) (sym (track_no_v a.s.now a.track a.reach _ _ c.in_ok-u.ensures.reads _ c.in_err-v.ensures.reads))

pub returns : goal.returns
returns c =
    let a = c.args in
    let e = track_whole a.s.now a.track a.reach _ _ c.in_ok-u.ensures.reads _ _ c.in_ok-v.ensures.reads in
    cc (e, c.sample_count.ensures a.s.now, c.sample_count-2.ensures a.s.now)
