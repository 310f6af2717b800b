pub mod Crates
pub mod Files
pub mod Blocks
pub mod Entries
pub mod SourceTable
pub mod SourceEdits
pub mod KeySources
pub mod NumberCodes
pub mod SourceNumbers
pub mod Inputs
pub mod Askers
pub mod Kept
pub mod KeptCodes
pub mod Standing
pub mod SessionState
pub mod SourceCodes
pub mod TableCodes
pub mod CrateCodes
pub mod InputCodes
pub mod Codes
pub mod Spread
pub mod Marks
pub mod EditedSources
pub mod Due
pub mod Nesting
pub mod Refusals
pub mod Beginning
pub mod Changes
pub mod Types
pub use Rattle.hir_collector_rules.specs.HirBase as HirBase
pub use Rattle.hir_collector_rules.specs as HirCollectorRules
pub use Rattle.hir_collector_rules.specs.HirCrateGraph as HirCrateGraph
pub use Rattle.hir_def_collector_laws.specs as HirDefCollectorLaws
pub use Rattle.hir_collector_rules.specs.HirDefMapRules as HirDefMapRules
pub use Rattle.hir_collector_rules.specs.HirIds as HirIds
pub use Rattle.hir_collector_rules.specs.HirItemTree as HirItemTree
pub use Rattle.hir_collector_rules.specs.HirMapParts as HirMapParts
pub use Rattle.hir_messages.specs as HirMessages
pub use Rattle.hir_collector_rules.specs.HirNameres as HirNameres
pub use Rattle.hir_collector_rules.specs.HirPerNs as HirPerNs
pub use Rattle.hir_collector_rules.specs.HirScope as HirScope
pub use Rattle.hir_collector_rules.specs.HirTables as HirTables
