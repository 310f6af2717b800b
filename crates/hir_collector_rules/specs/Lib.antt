-- ---- what is handed in, and what a run may ask for
pub mod InnerPaths
pub mod Workspace
pub mod Keys
pub mod Asked
-- ---- where a run stands, and where it begins
pub mod State
pub mod CrateTop
pub mod Preludes
pub mod Start
-- ---- what items declare, and what imports bring
pub mod ItemIds
pub mod Items
pub mod Enums
pub mod Imports
pub mod Macros
pub mod Calls
pub mod Invocations
-- ---- which files are those of modules, and what is reported
pub mod ModuleFiles
pub mod Reports
pub mod BuiltinAttributes
pub mod Attributes
-- ---- the rules
pub mod Changes
pub mod Steps
-- ---- what a run comes to
pub mod Rounds
pub mod Ended
pub mod NumberedOut
pub mod UnknownSources
pub mod Derivation
pub mod Causes
pub mod Growth
-- ---- words of private code
pub mod Moves
pub mod CallMoves
pub mod TreeReads
pub mod Codes
pub mod CollectedCodes
pub mod Types
pub use Rattle.hir_nameres.specs.HirBase as HirBase
pub use Rattle.hir_nameres.specs.HirCrateGraph as HirCrateGraph
pub use Rattle.hir_nameres.specs.HirDefMapRules as HirDefMapRules
pub use Rattle.hir_glob_imports.specs as HirGlobImports
pub use Rattle.hir_nameres.specs.HirIds as HirIds
pub use Rattle.hir_import_rules.specs as HirImportRules
pub use Rattle.hir_item_tree.specs as HirItemTree
pub use Rattle.hir_nameres.specs.HirMapParts as HirMapParts
pub use Rattle.hir_mod_dir.specs as HirModDir
pub use Rattle.hir_nameres.specs as HirNameres
pub use Rattle.hir_nameres.specs.HirPerNs as HirPerNs
pub use Rattle.hir_nameres.specs.HirRawVisibility as HirRawVisibility
pub use Rattle.hir_nameres.specs.HirScope as HirScope
pub use Rattle.hir_nameres.specs.HirScopeTable as HirScopeTable
pub use Rattle.hir_tables.specs as HirTables
pub use Rattle.hir_nameres.specs.HirTextualScope as HirTextualScope
pub use Rattle.hir_use_tree.specs as HirUseTree
