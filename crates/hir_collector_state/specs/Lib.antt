-- ---- words of private code
pub mod MacroUses
pub mod Waiting
pub use Rattle.hir_collector_rules.specs.HirBase as HirBase
pub use Rattle.hir_collector_rules.specs as HirCollectorRules
pub use Rattle.hir_def_map_laws.specs as HirDefMapLaws
pub use Rattle.hir_collector_rules.specs.HirDefMapRules as HirDefMapRules
pub use Rattle.hir_collector_rules.specs.HirGlobImports as HirGlobImports
pub use Rattle.hir_collector_rules.specs.HirIds as HirIds
pub use Rattle.hir_import_growth.specs as HirImportGrowth
pub use Rattle.hir_collector_rules.specs.HirImportRules as HirImportRules
pub use Rattle.hir_collector_rules.specs.HirItemTree as HirItemTree
pub use Rattle.hir_collector_rules.specs.HirMapParts as HirMapParts
pub use Rattle.hir_collector_rules.specs.HirModDir as HirModDir
pub use Rattle.hir_collector_rules.specs.HirNameres as HirNameres
pub use Rattle.hir_collector_rules.specs.HirPerNs as HirPerNs
pub use Rattle.hir_collector_rules.specs.HirScope as HirScope
pub use Rattle.hir_collector_rules.specs.HirTables as HirTables
pub use Rattle.hir_collector_rules.specs.HirTextualScope as HirTextualScope
pub use Rattle.hir_collector_rules.specs.HirUseTree as HirUseTree
