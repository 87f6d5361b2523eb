use mathlib.Core.Path.{sym, ap, ◌∙◌}
use Rattle.std.specs.Prelude.{Some, None}
use native.Mathlib.Omega.{arith}
use Rattle.gltf.specs.CurveCode.{domain_means}
use Rattle.gltf.proofs.ResampleLaws.{empty_list, too_small, resampled, no_frames_answered, frames_answered}
use Rattle.gltf.proofs.resample.Goals as goal

-- `gltf::resample` meets its contract. Assumes nothing.
pub returns-then-any_empty : goal.returns-then-any_empty
returns-then-any_empty c = let a = c.args in empty_list _ _ a.out.now a.place (sym (c.any_empty.ensures a.s.now) ∙ c.if-any_empty.true)

pub axes_domain-d-requires : goal.axes_domain-d-requires
axes_domain-d-requires c = (c.requires, sym (c.any_empty.ensures c.args.s.now) ∙ c.if-any_empty.false)

pub returns-then-out-place : goal.returns-then-out-place
returns-then-out-place c =
    let a = c.args in
    too_small _ _ a.out.now a.place (sym (c.any_empty.ensures c.args.s.now) ∙ c.if-any_empty.false) _ c.axes_domain-d.ensures.0 (omega arith)

pub returns-in-None : goal.returns-in-None
returns-in-None c =
    let a = c.args in
    resampled _ _ a.out.now a.place (sym (c.any_empty.ensures c.args.s.now) ∙ c.if-any_empty.false) _ c.axes_domain-d.ensures.0 (omega arith) c.resample_vec3.new.out c.resample_vec3.ensures None (no_frames_answered _ (ap domain_means c.in-None.is))

pub returns-in-Sampled : goal.returns-in-Sampled
returns-in-Sampled c =
    let a = c.args in
    resampled _ _ a.out.now a.place (sym (c.any_empty.ensures c.args.s.now) ∙ c.if-any_empty.false) _ c.axes_domain-d.ensures.0 (omega arith) c.resample_vec3.new.out c.resample_vec3.ensures (Some (record { start_frame = _; end_frame = _; frames = _ })) (frames_answered _ _ _ _ _ (ap domain_means c.in-Sampled.is) c.num_frames-frames.ensures.0)
