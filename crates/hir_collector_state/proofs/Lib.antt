pub mod MacroUses
pub mod Made
pub mod InOrder
pub mod EnumMacros
pub mod CallReads
pub mod Noted
mod SameMacros
pub use Rattle.hir_collector_rules.proofs as HirCollectorRules
pub use Rattle.hir_collector_start.proofs as HirCollectorStart
pub use Rattle.hir_def_map_laws.proofs as HirDefMapLaws
pub use Rattle.hir_collector_rules.proofs.HirDefMapRules as HirDefMapRules
pub use Rattle.hir_import_growth.proofs as HirImportGrowth
pub use Rattle.hir_collector_rules.proofs.HirTables as HirTables
