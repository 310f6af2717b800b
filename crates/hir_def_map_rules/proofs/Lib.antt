-- what a map is made of
pub mod NoneOf
pub mod Fails
pub mod Referred
pub mod EnumIds
pub mod Grown
pub mod Listed
pub mod WellFormed
pub mod ScopeChanges
pub mod StaysWellFormed
pub mod StaysSourced
-- paths
pub mod Blocks
pub mod Climb
pub mod LookUps
pub mod Segments
pub mod Reached
pub mod Sourced
-- single functions
pub mod Branches
pub mod Modules
-- worlds
pub mod References
pub use Rattle.hir_crate_graph.proofs as HirCrateGraph
pub use Rattle.hir_map_parts.proofs as HirMapParts
pub use Rattle.hir_scope.proofs.HirPerNs as HirPerNs
pub use Rattle.hir_scope.proofs as HirScope
pub use Rattle.hir_scope.proofs.HirTextualScope as HirTextualScope
