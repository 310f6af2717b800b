-- what is read of a map, and lent of it
pub mod ModuleIds
pub mod Lending
-- ---- what a path is asked with
pub mod Scoping
-- ---- the finished maps
pub mod World
pub mod Removal
-- a part of them, and that with the current map on top
pub mod WorldParts
pub mod DefMaps
-- the types of the crate, under their names
pub mod Types
-- ---- words of private code
pub mod Inner
pub use Rattle.hir_def_map_rules.specs.HirBase as HirBase
pub use Rattle.hir_def_map_rules.specs.HirCrateGraph as HirCrateGraph
pub use Rattle.hir_def_map_rules.specs as HirDefMapRules
pub use Rattle.hir_def_map_rules.specs.HirIds as HirIds
pub use Rattle.hir_def_map_rules.specs.HirMapParts as HirMapParts
pub use Rattle.hir_def_map_rules.specs.HirPerNs as HirPerNs
pub use Rattle.hir_def_map_rules.specs.HirRawVisibility as HirRawVisibility
pub use Rattle.hir_def_map_rules.specs.HirScope as HirScope
pub use Rattle.hir_def_map_rules.specs.HirScopeTable as HirScopeTable
pub use Rattle.hir_def_map_rules.specs.HirTextualScope as HirTextualScope
