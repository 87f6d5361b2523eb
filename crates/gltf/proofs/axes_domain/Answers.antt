use Rattle.gltf.proofs.ResampleLaws.{none_empty, axes_domain_is}
use Rattle.gltf.proofs.axes_domain.Goals as goal

-- `gltf::axes_domain` meets its contract. Assumes nothing.
pub domain-requires : goal.domain-requires
domain-requires c = (c.requires.0.x, (none_empty _ c.requires.1).0)

pub domain-requires-2 : goal.domain-requires-2
domain-requires-2 c = (c.requires.0.y, (none_empty _ c.requires.1).1)

pub domain-requires-3 : goal.domain-requires-3
domain-requires-3 c = (c.requires.0.z, (none_empty _ c.requires.1).2)

pub returns : goal.returns
returns c = axes_domain_is _ _ _ _ _ _ c.domain.ensures c.domain-2.ensures c.domain-3.ensures c.union.ensures c.union-2.ensures
