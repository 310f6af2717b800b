-- The types of the crate, under their names.
pub use Rattle.hir_session_state.specs.declared.askers.Askers.{Askers}
pub use Rattle.hir_session_state.specs.declared.askers.KeyPlaces.{KeyPlaces}
pub use Rattle.hir_session_state.specs.declared.error.DiagnosticsError.{DiagnosticsError}
pub use Rattle.hir_session_state.specs.declared.error.EditError.{EditError}
pub use Rattle.hir_session_state.specs.declared.error.ImplItemsError.{ImplItemsError}
pub use Rattle.hir_session_state.specs.declared.error.NewSessionError.{NewSessionError}
pub use Rattle.hir_session_state.specs.declared.error.QueryError.{QueryError}
pub use Rattle.hir_session_state.specs.declared.error.RefreshError.{RefreshError}
pub use Rattle.hir_session_state.specs.declared.error.TraitItemsError.{TraitItemsError}
pub use Rattle.hir_session_state.specs.declared.error.TreeTextError.{TreeTextError}
pub use Rattle.hir_session_state.specs.declared.runs.KeptRun.{KeptRun}
pub use Rattle.hir_session_state.specs.declared.source_number.SourceNumber.{SourceNumber}
