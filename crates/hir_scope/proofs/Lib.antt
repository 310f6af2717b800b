pub mod Rewrites
pub mod Pushes
pub mod AfterPush
pub mod ImportChainLemmas
pub mod AscendingLemmas
pub mod WalkLemmas
pub mod AskLemmas
pub mod EntryNames
pub mod Updates
pub use Rattle.hir_per_ns.proofs as HirPerNs
pub use Rattle.hir_textual_scope.proofs as HirTextualScope
