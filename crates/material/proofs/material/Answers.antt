use mathlib.Core.List.{List}
use mathlib.Core.Path.{ap, subst, ◌∙◌, ◌≡◌}
use Prim.Native.Nat.{ℕ}
use Rattle.util.proofs.TryLaws.{passed_on}
use Rattle.material_animation.specs.MaterialAnimation.{shift_of}
use Rattle.material_animation.specs.MaterialAnimationCode.{WholeMaterial, shift_means}
use Rattle.pattern.specs.Pattern.{keys_of}
use Rattle.pattern.specs.PatternCode.{WholePattern, KeyIs}
use Rattle.nitro.proofs.EntryLaws.{onward}
use Rattle.calls.specs.AnswersCode.{found, material_answer_means}
use Rattle.calls.specs.Material.{joined}
use Rattle.material.proofs.EntriesLaws.{srt_refused, pat_refused, entries_joined}
use Rattle.material.proofs.material.Goals as goal

-- `material::material` meets its contract. Assumes nothing.
pub returns-in_err-e : goal.returns-in_err-e
returns-in_err-e c =
    let a = c.args in
    ap material_answer_means (passed_on _ _ c.from_residual.ensures.1) ∙ srt_refused a.srt.now a.srt_entry a.pat.now a.pat_entry a.name.now a.frame _ c.in_err-e.ensures

pub returns-in_err-f : goal.returns-in_err-f
returns-in_err-f c =
    let a = c.args in
    ap material_answer_means (passed_on _ _ c.from_residual-in_err-f.ensures.1)
    ∙ pat_refused a.srt.now a.srt_entry a.pat.now a.pat_entry a.name.now a.frame _ _ c.in_ok-e.ensures _ c.in_err-f.ensures

pub returns : goal.returns
returns c =
    let a = c.args in
    let w = c.in_ok-e.ensures in
    let x = c.in_ok-f.ensures in
    let keys = keys_of a.name.now x.whole.held in
    let shift-is =
    subst (λ (l : List ℕ). (o : WholeMaterial l c.in_ok-e.a) → found shift_means c.find_shift.result ≡ shift_of a.name.now a.frame o.held) (onward c.in_ok-e.e.offset a.srt.now) c.find_shift.ensures w.whole in
    let key-is = subst (λ (l : List ℕ). (o : WholePattern l c.in_ok-f.b) → KeyIs (keys_of a.name.now o.held) a.frame c.find_key.result) (onward c.in_ok-f.f.offset a.pat.now) c.find_key.ensures x.whole in
    c.join.ensures a.frame keys key-is
    ∙ (ap (λ m. joined a.frame m keys) shift-is ∙ entries_joined a.srt.now a.srt_entry a.pat.now a.pat_entry a.name.now a.frame _ _ w _ _ x)
