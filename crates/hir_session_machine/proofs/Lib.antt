pub mod Replies
pub mod Histories
pub mod Telling
pub mod Listing
pub mod Commands
pub mod Headline
pub use Rattle.hir_lines.proofs as HirLines
pub use Rattle.hir_session_core.proofs.HirSessionAnswers as HirSessionAnswers
pub use Rattle.hir_session_core.proofs as HirSessionCore
pub use Rattle.hir_session_core.proofs.HirSessionSources as HirSessionSources
pub use Rattle.hir_session_core.proofs.HirSessionState as HirSessionState
pub use Rattle.hir_session_core.proofs.HirTables as HirTables
