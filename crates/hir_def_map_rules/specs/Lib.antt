-- ---- what a def map is, and what each building call makes of it
pub mod State
pub mod Declaration
pub use Rattle.hir_map_parts.specs.Origins
pub mod Building
pub mod Macros
pub use Rattle.hir_map_parts.specs.Diagnostics
-- what is read of a map
pub mod Reads
-- what a module keeps once it declares one thing more
pub mod Listed
-- ---- the finished maps with the current one on top
pub mod Overlay
pub mod Ancestors
-- ---- what a path stands for
pub mod Scoping
pub mod Reaches
pub mod Visibilities
-- ---- what a map refers to, and what is well-formed
pub mod References
pub mod WellFormed
pub mod Closed
-- a part of them, and that with the current map on top
pub mod AskMaps
-- ---- what is written out
pub mod Dump
-- ---- equal maps
pub mod Equality
-- ---- where what is bound is written
pub mod Sources
-- ---- words of private code
pub mod Inner
pub mod Types
pub use Rattle.hir_base.specs as HirBase
pub use Rattle.hir_crate_graph.specs as HirCrateGraph
pub use Rattle.hir_scope.specs.HirIds as HirIds
pub use Rattle.hir_map_parts.specs as HirMapParts
pub use Rattle.hir_scope.specs.HirPerNs as HirPerNs
pub use Rattle.hir_raw_visibility.specs as HirRawVisibility
pub use Rattle.hir_scope.specs as HirScope
pub use Rattle.hir_scope.specs.HirScopeTable as HirScopeTable
pub use Rattle.hir_scope.specs.HirTextualScope as HirTextualScope
