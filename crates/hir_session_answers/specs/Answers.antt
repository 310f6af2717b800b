-- What is a path answered?
use Rattle.std.specs.Prelude.{Option, None, Some, Result, Ok, Err}
use Rattle.std.specs.Option.{option_and_then}
use Rattle.hir_session_state.specs.HirBase.ModPath.{Path}
use Rattle.hir_session_state.specs.HirBase.Place.{PlaceValue}
use Rattle.hir_session_state.specs.HirBase.declared.resolve_mode.BuiltinShadowMode.{BuiltinShadowMode}
use Rattle.hir_session_state.specs.HirBase.declared.resolve_mode.MacroSubNs.{MacroSubNs}
use Rattle.hir_session_state.specs.HirIds.declared.ids.ModuleId.{ModuleId}
use Rattle.hir_session_state.specs.HirTables.Tables.{TablesValue}
use Rattle.hir_session_state.specs.HirDefMapRules.State.{Local}
use Rattle.hir_session_state.specs.HirDefMapRules.Overlay.{Maps, overlay}
use Rattle.hir_session_state.specs.HirDefMapRules.Scoping.{resolution_of}
use Rattle.hir_session_state.specs.HirDefMapRules.Scoping.Asking.{Asking}
use Rattle.hir_session_state.specs.HirDefMapRules.declared.path_result.ResolveMode.TheVariants as mode
use Rattle.hir_session_state.specs.HirBase.declared.resolve_mode.BuiltinShadowMode.TheVariants as shadow_mode
use Rattle.hir_session_state.specs.HirBase.declared.resolve_mode.MacroSubNs.TheVariants as sub_ns
use Rattle.hir_session_state.specs.HirDefMapRules.declared.path_result.ResolvePathResult.{ResolvePathResult}
use Rattle.hir_session_state.specs.HirMessages.declared.answer.Answer.{Answer}
use Rattle.hir_session_state.specs.HirMessages.declared.command.MacroStyle.{MacroStyle}
use Rattle.hir_session_state.specs.HirMessages.declared.command.Shadow.{Shadow}
use Rattle.hir_session_state.specs.HirMessages.declared.reply.Status.{Status}
use Rattle.hir_session_state.specs.HirMessages.declared.command.Shadow.TheVariants as shadow
use Rattle.hir_session_state.specs.HirMessages.declared.command.MacroStyle.TheVariants as style
use Rattle.hir_session_state.specs.HirMessages.declared.reply.Status.TheVariants as status
use Rattle.hir_session_state.specs.declared.error.QueryError.{QueryError}
use Rattle.hir_session_state.specs.declared.error.QueryError.TheVariants as error
use Rattle.hir_session_state.specs.SessionState.{SessionState, Resolution, kept_of, module_of, read_of}
use Rattle.hir_session_answers.specs.Status.{status_of}
use Rattle.hir_session_answers.specs.SourceItems.{answered_type, answered_value, answered_macro}

-- the shadow mode that a query asks for
abbrev pub shadow_mode_of : Shadow → BuiltinShadowMode
shadow_mode_of shadow.Module = shadow_mode.Module
shadow_mode_of shadow.Other = shadow_mode.Other

-- the macros that a query asks for
abbrev pub sub_ns_of : Option MacroStyle → Option MacroSubNs
sub_ns_of None = None
sub_ns_of (Some style.Bang) = Some sub_ns.Bang
sub_ns_of (Some style.Attr) = Some sub_ns.Attr

-- how a query asks, where tables may begin with these crates
abbrev pub asking_of : Local → Shadow → Option MacroStyle → Asking
asking_of local shadow style = record { local = local; mode = mode.Other; shadow = shadow_mode_of shadow; sub_ns = sub_ns_of style }

-- what a path means, in source items
abbrev pub named_by : TablesValue → Maps → ResolvePathResult → Answer
named_by tables maps r = record {
  types = option_and_then (answered_type tables maps) r.resolved_def.types;
  values = option_and_then (answered_value tables maps) r.resolved_def.values;
  macros = option_and_then (answered_macro tables maps) r.resolved_def.macros;
  stop = r.segment_index;
}

-- what a path means in a module of one of the maps, in source items
abbrev pub answer_in : TablesValue → Maps → Local → ModuleId → Path → Shadow → Option MacroStyle → Answer
answer_in tables maps local m path shadow style = named_by tables maps (resolution_of maps (asking_of local shadow style) m path)

-- the answer over what is kept, from a module of it, beside the finished maps that it reads
abbrev pub answer_from : TablesValue → Maps → Option Resolution → ModuleId → Path → Shadow → Option MacroStyle → Result Answer QueryError
answer_from tables read None m path shadow style = Err error.UnknownPlace
answer_from tables read (Some r) m path shadow style = Ok (answer_in tables (overlay read r.map) r.local m path shadow style)

-- the answer, where the place's answers stand so
abbrev pub answer_by : Status → Result Answer QueryError → Result Answer QueryError
answer_by status.Current answer = answer
answer_by status.Stale answer = Err error.StalePlace
answer_by status.Unknown answer = Err error.UnknownPlace

-- what a path means in a module of a current map
abbrev pub answer_at : SessionState → Option ModuleId → Path → Shadow → Option MacroStyle → Result Answer QueryError
answer_at s None path shadow style = Err error.UnknownPlace
answer_at s (Some m) path shadow style = answer_from s.tables (read_of s m.map) (kept_of s m.map) m path shadow style

-- what a path means over what is kept
abbrev pub answer_kept : SessionState → PlaceValue → Path → Shadow → Option MacroStyle → Result Answer QueryError
answer_kept s place path shadow style = answer_at s (module_of s place) path shadow style

-- the answer to a query
abbrev pub answer_of : SessionState → PlaceValue → Path → Shadow → Option MacroStyle → Result Answer QueryError
answer_of s place path shadow style = answer_by (status_of s place) (answer_kept s place path shadow style)
