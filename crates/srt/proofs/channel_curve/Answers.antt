use mathlib.Core.List.{List}
use mathlib.Core.Path.{sym, ap, subst, ◌∙◌}
use Prim.Native.Nat.{ℕ}
use Rattle.std.specs.Prelude.{Ok, Err}
use Rattle.util.specs.Reader.{answered}
use Rattle.curve.specs.Curve.{recorded}
use Rattle.curve.specs.CurveCode.{scalar_curve}
use Rattle.material_animation.specs.MaterialAnimationCode.{ChannelReads}
use Rattle.nitro.proofs.EntryLaws.{onward}
use Rattle.srt.proofs.SrtLaws.{channel_past, channel_there, channel_recorded}
use Rattle.srt.proofs.channel_curve.Goals as goal

-- `srt::channel_curve` meets its contract. Assumes nothing.
pub returns-then-channel-ge5 : goal.returns-then-channel-ge5
returns-then-channel-ge5 c = let a = c.args in sym (channel_past a.s.now a.entry a.track _ c.in_ok-t.ensures a.channel c.if-channel-ge5.true)

pub returns-in_err-curve : goal.returns-in_err-curve
returns-in_err-curve c =
    let a = c.args in
    let t = c.in_ok-t.t in
    let x = subst (λ (l : List ℕ). ChannelReads l t.datum a.channel 0 (Err c.in_err-curve.field-0.0)) (onward t.offset a.s.now) c.in_err-curve.ensures in
    absurd (channel_there a.s.now a.entry a.track _ c.in_ok-t.ensures a.channel c.if-channel-ge5.false _ x)

pub returns : goal.returns
returns c =
    let a = c.args in
    let t = c.in_ok-t.t in
    let curve = c.in_ok-curve.curve in
    let x = subst (λ (l : List ℕ). ChannelReads l t.datum a.channel 0 (Ok (curve, c.in_ok-curve.field-0-1))) (onward t.offset a.s.now) c.in_ok-curve.ensures in
    ap answered (c.record.ensures ∙ ap (λ (l : List ℕ). recorded t.offset (scalar_curve l curve)) (onward t.offset a.s.now))
    ∙ channel_recorded a.s.now a.entry a.track _ c.in_ok-t.ensures a.channel c.if-channel-ge5.false curve _ x
