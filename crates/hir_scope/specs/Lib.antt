-- ---- what a name stands for, and who may see it
pub use Rattle.hir_per_ns.specs.PerNs
pub use Rattle.hir_per_ns.specs.Imports
pub use Rattle.hir_per_ns.specs.ModuleTree
pub use Rattle.hir_per_ns.specs.Visibility
-- ---- a push, and what prevails
pub use Rattle.hir_scope_table.specs.Entries
pub mod ImportRecords
pub mod Bindings
pub mod Globs
pub use Rattle.hir_scope_table.specs.Table
-- ---- the names of a scope
pub use Rattle.hir_scope_table.specs.Slots
pub use Rattle.hir_scope_table.specs.SlotWalk
pub use Rattle.hir_scope_table.specs.Probe
-- ---- a scope
pub mod Scope
pub mod MacroScope
pub mod ImportChains
pub mod Dump
pub mod Laws
-- ---- lists in order, and words of private code
pub use Rattle.hir_scope_table.specs.Merge
pub mod Inner
pub mod Types
pub use Rattle.hir_ids.specs as HirIds
pub use Rattle.hir_per_ns.specs as HirPerNs
pub use Rattle.hir_scope_table.specs as HirScopeTable
pub use Rattle.hir_textual_scope.specs as HirTextualScope
