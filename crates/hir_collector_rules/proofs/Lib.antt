pub mod Lists
pub mod Entries
pub mod ImportEdits
pub mod Changes
pub mod Bound
pub mod Kept
pub mod Declared
pub mod Grows
pub mod Moves
pub mod InRange
pub mod Holds
pub mod Tried
pub mod Eager
pub mod ModuleFiles
pub mod Asks
pub mod Dependencies
pub mod Asked
pub mod Derived
pub mod Numbers
pub mod Meaning
pub use Rattle.hir_nameres.proofs.HirCrateGraph as HirCrateGraph
pub use Rattle.hir_nameres.proofs.HirDefMapRules as HirDefMapRules
pub use Rattle.hir_glob_imports.proofs as HirGlobImports
pub use Rattle.hir_import_rules.proofs as HirImportRules
pub use Rattle.hir_item_tree.proofs as HirItemTree
pub use Rattle.hir_nameres.proofs.HirMapParts as HirMapParts
pub use Rattle.hir_nameres.proofs.HirScope as HirScope
pub use Rattle.hir_tables.proofs as HirTables
