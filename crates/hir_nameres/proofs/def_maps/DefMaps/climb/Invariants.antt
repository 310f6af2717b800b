-- What is left to climb leads to the same module.
use Rattle.std.proofs.Common.{◌≡◌}
use Rattle.hir_nameres.specs.DefMaps.{maps_of}
use Rattle.hir_def_map_rules.specs.Scoping.Start.{climb}
use Rattle.hir_nameres.proofs.def_maps.DefMaps.climb.Given as goal

abbrev pub invariant-up : goal.invariant-up
invariant-up l = climb (maps_of l.self) l.fn.levels l.fn.from ≡ climb (maps_of l.self) l.left l.at

abbrev pub decreases-up : goal.decreases-up
decreases-up l = l.left
