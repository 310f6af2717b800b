-- The module that has been reached leads to the same one.
use Rattle.std.proofs.Common.{◌≡◌, length}
use Rattle.hir_def_map_rules.specs.Ancestors.{holders_in}
use Rattle.hir_nameres.specs.DefMaps.{maps_of}
use Rattle.hir_def_map_rules.specs.Scoping.Segments.{nearest_non_block_module}
use Rattle.hir_nameres.proofs.def_maps.DefMaps.nearest_non_block_module.Given as goal

abbrev pub invariant-out : goal.invariant-out
invariant-out l = nearest_non_block_module (maps_of l.self) l.fn.«module» ≡ nearest_non_block_module (maps_of l.self) l.at

abbrev pub decreases-out : goal.decreases-out
decreases-out l = length (holders_in (maps_of l.self) l.at)
