-- What do the diagnostics of a crate stand on?
use Rattle.std.specs.Prelude.{◌≡◌, List, Some, map}
use Rattle.hir_session_state.specs.HirIds.declared.ids.Crate.{Crate}
use Rattle.hir_session_state.specs.HirTables.Tables.{TablesValue}
use Rattle.hir_session_state.specs.HirDefMapRules.Diagnostics.{diagnostic_view}
use Rattle.hir_session_state.specs.HirDefMapRules.Overlay.{Maps, overlay}
use Rattle.hir_session_state.specs.HirMapParts.declared.diagnostics.DefDiagnostic.{DefDiagnostic}
use Rattle.hir_session_state.specs.HirMessages.declared.diagnostic.Diagnostic.{Diagnostic}
use Rattle.hir_session_state.specs.Crates.{id_of}
use Rattle.hir_session_answers.specs.Diagnostics.{diagnostic_source}
use Rattle.hir_session_answers.specs.AnswersStand.{StandsAt}
use Rattle.hir_session_state.specs.SessionState.{SessionState, Resolution, read_of}

-- each diagnostic of a map is told, in source items and in their order, and nothing else is
abbrev pub AreTold : TablesValue → Maps → List DefDiagnostic → List Diagnostic → Type 0
AreTold tables maps ds told = map (λ (d : DefDiagnostic). diagnostic_source tables maps (diagnostic_view d)) ds ≡ map (λ (t : Diagnostic). Some t) told

-- what is told is all that is reported in a resolution in which a derivation from the present sources ends, beside the finished maps of the crates
-- on which the crate stands
pub record DiagnosticsStand (s : SessionState) (krate : Crate) (told : List Diagnostic) : Type 0 where
  pub found : Resolution
  pub stands : StandsAt s (id_of krate.0) found
  -- none is left out
  pub all : AreTold s.tables (overlay (read_of s (id_of krate.0)) found.map) found.map.diagnostics told
