use mathlib.Core.List.{List}
use mathlib.Core.Path.{sym, ap, subst, ◌∙◌}
use Prim.Native.Nat.{ℕ}
use Rattle.nitro.proofs.EntryLaws.{onward}
use Rattle.util.specs.Reader.{answered}
use Rattle.material_animation.specs.MaterialAnimationCode.{TrackIs}
use Rattle.calls.specs.Calls.{uv_matrix, ask_material}
use Rattle.srt.proofs.uv_matrix.Goals as goal

-- `srt::uv_matrix` meets its contract. Assumes nothing.
pub returns : goal.returns
unfolding ask_material
returns c =
    let a = c.args in
    let w = c.in_ok-t.ensures in
    let t = c.in_ok-t.t in
    ap answered (c.eval_uv_mat.ensures w.channels (subst (λ (l : List ℕ). TrackIs l t.datum w.channels) (sym (onward t.offset a.s.now)) w.track)) ∙ sym (w.answers (uv_matrix a.frame))
