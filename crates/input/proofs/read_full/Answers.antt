use Rattle.std.proofs.Common.{◌≡◌, ℕ, ◌+◌, ◌≤◌, List, ◌++◌, length, take, arith, sym, ap, ◌∙◌, subst, length-take-le}
use Rattle.std.proofs.Math.Seq.{take-append-add}
use Rattle.std.proofs.lemmas.List.{take-append-le}
use Rattle.std.proofs.KnownBytes.{Consumes-trans}
use Rattle.std.specs.Io.KnownBytes.{Consumes}
use borrow.Rule.Slice.PartMut.{put_mid, post_of}
use Rattle.input.proofs.read_full.Goals as goal

-- of a list, written from a on, the front and m more
front_more : (a k m : ℕ) (xs ys : List ℕ) → a ≤ length xs → m ≤ length ys → take (a + m) (put_mid a k xs ys) ≡ take a xs ++ take m ys
front_more a k m xs ys within fits =
    let after = post_of a k xs in
    ap (λ (q : ℕ). take (q + m) (take a xs ++ (ys ++ after))) (sym (length-take-le a xs within)) ∙ take-append-add (take a xs) (ys ++ after) m ∙ ap (λ (l : List ℕ). take a xs ++ l) (take-append-le m ys after fits)

pub loop-n-preserved : goal.loop-n-preserved
loop-n-preserved g c =
    let l = c.loop-n in
    let within = l.invariant.0 in
    let fits : c.in_ok-more.more ≤ length c.read.new.buf = c.in_ok-more.ensures.bound.0 in (
      omega arith,
      subst (Consumes (g.R.Read.remaining c.args.from.now) (g.R.Read.remaining c.read.new.self)) (sym (front_more _ _ _ _ _ within fits)) (Consumes-trans _ _ _ _ _ l.invariant.1 c.in_ok-more.ensures.bytes.0),
    )
