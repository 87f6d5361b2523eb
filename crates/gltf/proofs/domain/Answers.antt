use mathlib.Core.Path.{refl, subst}
use native.Mathlib.Omega.{arith}
use Rattle.curve.specs.CurveCode.{Inside}
use Rattle.gltf.specs.Curve.{no_domain, domain}
use Rattle.gltf.proofs.ResampleLaws.{domain_as, constant_domain, list_counts, list_domain}
use Rattle.gltf.proofs.domain.Goals as goal

pub samples-requires : goal.samples-requires
samples-requires c =
    let here = rw c.in-Samples.is at c.requires.0 in
    let some = list_counts c.args.s.now c.args.c _ _ c.in-Samples.is c.requires.1 in
    (omega (arith, here.framed.ordered, here.frames, some), some)

pub returns-in-None : goal.returns-in-None
unfolding domain
returns-in-None c = domain_as _ _ _ c.in-None.is no_domain (refl, tt)

pub returns-in-Constant : goal.returns-in-Constant
returns-in-Constant c = domain_as _ _ _ c.in-Constant.is _ (constant_domain _ _ c.constant.ensures)

pub returns-in-Samples : goal.returns-in-Samples
returns-in-Samples c =
    let s = c.args.s.now in
    domain_as _ _ _ c.in-Samples.is _
    (list_domain _ _ _ (subst (Inside s) c.in-Samples.is c.requires.0) (list_counts s c.args.c _ _ c.in-Samples.is c.requires.1) _ c.samples.ensures)
