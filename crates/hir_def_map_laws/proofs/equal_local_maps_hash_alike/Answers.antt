-- The type's own laws say it.
use Rattle.hir_nameres.specs.HirMapParts.Inner.LocalHash.{local_alike}
use Rattle.hir_nameres.specs.HirDefMapRules.Equality.{same_local_equiv}
use Rattle.hir_def_map_laws.proofs.equal_local_maps_hash_alike.Goals as goal

pub returns : goal.returns
returns c = record { alike = record { equivalence = same_local_equiv; alike = local_alike.fed } }
