pub mod Walked
pub use Rattle.hir_collector_imports.proofs as HirCollectorImports
pub use Rattle.hir_collector_state.proofs.HirCollectorRules as HirCollectorRules
pub use Rattle.hir_collector_state.proofs.HirCollectorStart as HirCollectorStart
pub use Rattle.hir_collector_state.proofs as HirCollectorState
pub use Rattle.hir_collector_state.proofs.HirDefMapLaws as HirDefMapLaws
pub use Rattle.hir_mod_resolution.proofs as HirModResolution
pub use Rattle.hir_collector_state.proofs.HirTables as HirTables
