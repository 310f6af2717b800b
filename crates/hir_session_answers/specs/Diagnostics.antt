-- What is told of what couldn't be resolved in a crate?
use Rattle.std.specs.Prelude.{nat_lt, List, length, Option, None, Some, option_map, Result, Ok, Err, if◌then◌else◌}
use Rattle.std.specs.List.{filter_map}
use Rattle.hir_session_state.specs.HirBase.Cfg.{cfg_text}
use Rattle.hir_session_state.specs.HirIds.declared.ast_id.AstId.{AstId}
use Rattle.hir_session_state.specs.HirIds.declared.ids.Crate.{Crate}
use Rattle.hir_session_state.specs.HirTables.Tables.{TablesValue}
use Rattle.hir_session_state.specs.HirDefMapRules.Diagnostics.{DiagnosticValue, KindValue, UnresolvedModule, UnresolvedExternCrate}
use Rattle.hir_session_state.specs.HirDefMapRules.Diagnostics.{UnresolvedImport, UnconfiguredCode}
use Rattle.hir_session_state.specs.HirDefMapRules.Diagnostics.{UnresolvedMacroCall, UnimplementedBuiltinMacro, InvalidDeriveTarget}
use Rattle.hir_session_state.specs.HirDefMapRules.Diagnostics.{MalformedDerive, MacroDefError, MacroError}
use Rattle.hir_session_state.specs.HirDefMapRules.Diagnostics.{diagnostic_view, node_of}
use Rattle.hir_session_state.specs.HirDefMapRules.Overlay.{Maps, overlay}
use Rattle.hir_session_state.specs.HirMapParts.declared.diagnostics.DefDiagnostic.{DefDiagnostic}
use Rattle.hir_session_state.specs.HirMessages.declared.answer.Definition.{Definition}
use Rattle.hir_session_state.specs.HirMessages.declared.diagnostic.Diagnostic.{Diagnostic}
use Rattle.hir_session_state.specs.HirMessages.declared.diagnostic.DiagnosticKind.{DiagnosticKind}
use Rattle.hir_session_state.specs.HirMessages.declared.answer.ItemSource.{ItemSource}
use Rattle.hir_session_state.specs.HirMessages.declared.answer.SourceItem.{SourceItem}
use Rattle.hir_session_state.specs.HirMessages.declared.answer.SourceKind.TheVariants as source
use Rattle.hir_session_state.specs.HirMessages.declared.diagnostic.DiagnosticKind.TheVariants as told
use Rattle.hir_session_state.specs.declared.error.DiagnosticsError.{DiagnosticsError}
use Rattle.hir_session_state.specs.declared.error.DiagnosticsError.TheVariants as error
use Rattle.hir_session_state.specs.Crates.{id_of}
use Rattle.hir_session_state.specs.SessionState.{SessionState, Resolution, kept_of, read_of}
use Rattle.hir_session_answers.specs.SourceCalls.{call_kind, source_of}
use Rattle.hir_session_answers.specs.SourceItems.{module_definition}

-- a node, in what holds it
abbrev pub node_in : AstId → ItemSource → SourceItem
node_in node held = record { source = held; kind = source.Node node.kind; id = node.id }

-- the source item of a node
abbrev pub node_source : TablesValue → AstId → Option SourceItem
node_source tables node = option_map (node_in node) (source_of tables node.file_id node.block)

-- what is wrong with an item
abbrev pub kind_about : KindValue → SourceItem → DiagnosticKind
kind_about (UnresolvedModule ast candidates) item = told.UnresolvedModule candidates item
kind_about (UnresolvedExternCrate ast) item = told.UnresolvedExternCrate item
kind_about (UnresolvedImport id index) item = told.UnresolvedImport item index
kind_about (UnconfiguredCode ast cfg opts) item = told.UnconfiguredCode (cfg_text cfg) item
kind_about (UnresolvedMacroCall made path) item = told.UnresolvedMacroCall (record { item = item; kind = call_kind made }) path
kind_about (UnimplementedBuiltinMacro ast) item = told.UnimplementedBuiltinMacro item
kind_about (InvalidDeriveTarget ast id) item = told.InvalidDeriveTarget id.0 item
kind_about (MalformedDerive ast id) item = told.MalformedDerive id.0 item
kind_about (MacroDefError ast message) item = told.MacroDefError item message
kind_about (MacroError ast path err) item = told.MacroError err item path

-- it is about an item and was found in a module, where both have a source
abbrev pub diagnostic_with : KindValue → Option Definition → Option SourceItem → Option Diagnostic
diagnostic_with kind None item = None
diagnostic_with kind (Some within) None = None
diagnostic_with kind (Some within) (Some item) = Some (record { in_module = within; kind = kind_about kind item })

-- a diagnostic of a map, in source items
abbrev pub diagnostic_source : TablesValue → Maps → DiagnosticValue → Option Diagnostic
diagnostic_source tables maps d = diagnostic_with d.kind (module_definition tables maps d.in_module) (node_source tables (node_of d.kind))

-- diagnostics of a map, in source items and in their order
abbrev pub diagnostics_in : TablesValue → Maps → List DefDiagnostic → List Diagnostic
diagnostics_in tables maps ds = filter_map (λ d. diagnostic_source tables maps (diagnostic_view d)) ds

-- those of what is kept of a crate, beside the finished maps that it reads
abbrev pub diagnostics_from : TablesValue → Maps → Option Resolution → Result (List Diagnostic) DiagnosticsError
diagnostics_from tables read None = Err error.StalePlace
diagnostics_from tables read (Some r) = Ok (diagnostics_in tables (overlay read r.map) r.map.diagnostics)

-- those of a crate, or why they aren't told
abbrev pub diagnostics_of : SessionState → Crate → Result (List Diagnostic) DiagnosticsError
diagnostics_of s krate =
    if nat_lt krate.0 (length s.crates) then diagnostics_from s.tables (read_of s (id_of krate.0)) (kept_of s (id_of krate.0)) else
    Err error.UnknownCrate
