pub mod Machine
pub mod MachineHistories
pub mod MachineCodes
pub mod AnsweredLines
pub mod Headline
pub use Rattle.hir_session_core.specs.HirBase as HirBase
pub use Rattle.hir_session_core.specs.HirCollectorRules as HirCollectorRules
pub use Rattle.hir_session_core.specs.HirDefCollectorLaws as HirDefCollectorLaws
pub use Rattle.hir_session_core.specs.HirDefMapRules as HirDefMapRules
pub use Rattle.hir_session_core.specs.HirIds as HirIds
pub use Rattle.hir_session_core.specs.HirItemTree as HirItemTree
pub use Rattle.hir_lines.specs as HirLines
pub use Rattle.hir_session_core.specs.HirMessages as HirMessages
pub use Rattle.hir_session_core.specs.HirNameres as HirNameres
pub use Rattle.hir_session_core.specs.HirSessionAnswers as HirSessionAnswers
pub use Rattle.hir_session_core.specs as HirSessionCore
pub use Rattle.hir_session_core.specs.HirSessionSources as HirSessionSources
pub use Rattle.hir_session_core.specs.HirSessionState as HirSessionState
pub use Rattle.hir_session_core.specs.HirTables as HirTables
pub use Rattle.hir_wire.specs as HirWire
