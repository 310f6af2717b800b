pub mod Truth
pub mod Renewed
pub mod OwnKeys
pub mod Options
pub mod Depending
pub mod Ids
pub mod KeptLemmas
pub mod Places
pub mod Following
pub mod Names
pub mod Standing
pub mod Holding
pub mod Holders
pub mod Turns
pub mod Worlds
pub mod Resolving
pub mod NumberLemmas
pub mod KeyIds
pub mod Entering
pub mod Numbered
pub mod Dropping
pub mod Asking
pub mod Falling
pub mod Listing
pub mod Counting
pub use Rattle.hir_collector_rules.proofs as HirCollectorRules
pub use Rattle.hir_collector_rules.proofs.HirCrateGraph as HirCrateGraph
pub use Rattle.hir_def_collector_laws.proofs as HirDefCollectorLaws
pub use Rattle.hir_collector_rules.proofs.HirDefMapRules as HirDefMapRules
pub use Rattle.hir_collector_rules.proofs.HirItemTree as HirItemTree
pub use Rattle.hir_collector_rules.proofs.HirMapParts as HirMapParts
pub use Rattle.hir_collector_rules.proofs.HirScope as HirScope
pub use Rattle.hir_collector_rules.proofs.HirTables as HirTables
