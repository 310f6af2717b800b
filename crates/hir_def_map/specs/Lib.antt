-- what is read of a map, and lent of it
pub use Rattle.hir_nameres.specs.ModuleIds
pub use Rattle.hir_nameres.specs.Lending
-- ---- what a path is asked with
pub use Rattle.hir_nameres.specs.Scoping
-- ---- the finished maps
pub use Rattle.hir_nameres.specs.World
pub mod Insertion
pub use Rattle.hir_nameres.specs.Removal
pub mod Agreement
-- a part of them, and that with the current map on top
pub use Rattle.hir_nameres.specs.WorldParts
pub use Rattle.hir_nameres.specs.DefMaps
-- the types of the crate, under their names
pub mod Types
-- ---- words of private code
pub mod Inner
