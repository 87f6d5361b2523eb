use mathlib.Core.Path.{◌≡◌, sym, subst}
use lib.ListN.{length}
use Rattle.util.proofs.TryLaws.{passed_on}
use Rattle.pattern_section.specs.Written.{lent}
use Rattle.writing.specs.WritingCode.{WritesSection}
use Rattle.writing.proofs.CheckLaws.{refused_is, may_write, written_is}
use borrow.Author.Rules.{rules}
use Rattle.writing.proofs.write_pattern.Goals as goal

-- `writing::write_pattern` meets its contract. Assumes nothing.
pub put_section-requires : goal.put_section-requires
put_section-requires c =
    let a = c.args in
    let l = lent a.name.now a.frames a.textures.now a.palettes.now a.tracks.now a.keys.now in
    let sixteen : length l.name ≡ 16 = search rules in
    let w = may_write l a.out.now c.check_lists.result c.check_lists.ensures c.in_ok-size.size c.in_ok-size.was in
    (sixteen, w.sized, w.size, w.fits)

pub returns-in_err-size : goal.returns-in_err-size
returns-in_err-size c =
    let a = c.args in
    let l = lent a.name.now a.frames a.textures.now a.palettes.now a.tracks.now a.keys.now in
    subst (WritesSection l a.out.now a.out.now) (sym (passed_on _ _ c.from_residual.ensures.1)) (refused_is l a.out.now c.check_lists.result c.check_lists.ensures _ c.in_err-size.was)

pub returns : goal.returns
returns c =
    let a = c.args in
    let l = lent a.name.now a.frames a.textures.now a.palettes.now a.tracks.now a.keys.now in
    let sixteen : length l.name ≡ 16 = search rules in
    let w = c.put_section in
    written_is l a.out.now c.check_lists.result c.check_lists.ensures c.in_ok-size.size c.in_ok-size.was w.new.out sixteen w.ensures
