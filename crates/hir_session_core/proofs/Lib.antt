pub mod Naming
pub mod Sound
pub mod CrateEdits
pub mod Growth
pub mod Due
pub mod Pending
pub mod Awaiting
pub mod Waiting
pub mod Begun
pub mod Verdicts
pub mod Items
pub use Rattle.hir_session_answers.proofs as HirSessionAnswers
pub use Rattle.hir_session_sources.proofs as HirSessionSources
pub use Rattle.hir_session_state.proofs as HirSessionState
pub use Rattle.hir_session_state.proofs.HirTables as HirTables
