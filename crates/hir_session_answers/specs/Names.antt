-- What do the names of a module stand for, in source items?
use Rattle.std.specs.Prelude.{ℕ, List, map, Option, None, Some, Result, Ok, Err}
use Rattle.std.specs.Option.{option_and_then}
use Rattle.hir_session_state.specs.HirBase.Place.{PlaceValue}
use Rattle.hir_session_state.specs.HirIds.declared.ids.ModuleId.{ModuleId}
use Rattle.hir_session_state.specs.HirScope.Scope.{ScopeValue}
use Rattle.hir_session_state.specs.HirScope.Scope.Entries.{entries_of, resolutions_in}
use Rattle.hir_session_state.specs.HirPerNs.declared.per_ns.PerNs.{PerNs}
use Rattle.hir_session_state.specs.HirTables.Tables.{TablesValue}
use Rattle.hir_session_state.specs.HirDefMapRules.Overlay.{Maps, overlay}
use Rattle.hir_session_state.specs.HirDefMapRules.State.{scope_at}
use Rattle.hir_session_state.specs.HirMessages.declared.names.BoundName.{BoundName}
use Rattle.hir_session_state.specs.HirMessages.declared.reply.Status.{Status}
use Rattle.hir_session_state.specs.HirMessages.declared.reply.Status.TheVariants as status
use Rattle.hir_session_state.specs.declared.error.QueryError.{QueryError}
use Rattle.hir_session_state.specs.declared.error.QueryError.TheVariants as error
use Rattle.hir_session_state.specs.SessionState.{SessionState, Resolution, kept_of, module_of, read_of}
use Rattle.hir_session_answers.specs.SourceItems.{answered_type, answered_value, answered_macro}
use Rattle.hir_session_answers.specs.Status.{status_of}

-- what a name stands for in each namespace
abbrev pub named_in : TablesValue → Maps → Option (List ℕ) × PerNs → BoundName
named_in tables maps entry = record {
  name = entry.0;
  types = option_and_then (answered_type tables maps) entry.1.types;
  values = option_and_then (answered_value tables maps) entry.1.values;
  macros = option_and_then (answered_macro tables maps) entry.1.macros;
}

-- each name of a scope, in the order of names, and then each trait that is imported without one
abbrev pub scope_entries : ScopeValue → List (Option (List ℕ) × PerNs)
scope_entries scope = resolutions_in (entries_of scope) scope.unnamed_traits

-- what they stand for
abbrev pub names_in : TablesValue → Maps → ScopeValue → List BoundName
names_in tables maps scope = map (named_in tables maps) (scope_entries scope)

abbrev pub names_by : TablesValue → Maps → Option ScopeValue → Result (List BoundName) QueryError
names_by tables maps None = Err error.UnknownPlace
names_by tables maps (Some scope) = Ok (names_in tables maps scope)

-- those of a module of what is kept, beside the finished maps that it reads
abbrev pub names_from : TablesValue → Maps → Option Resolution → ModuleId → Result (List BoundName) QueryError
names_from tables read None m = Err error.UnknownPlace
names_from tables read (Some r) m = names_by tables (overlay read r.map) (scope_at r.map m.index)

-- those of a module of a current map
abbrev pub names_of_module : SessionState → Option ModuleId → Result (List BoundName) QueryError
names_of_module s None = Err error.UnknownPlace
names_of_module s (Some m) = names_from s.tables (read_of s m.map) (kept_of s m.map) m

abbrev pub names_kept : SessionState → PlaceValue → Result (List BoundName) QueryError
names_kept s place = names_of_module s (module_of s place)

-- the names, where the place's answers stand so
abbrev pub names_when : Status → Result (List BoundName) QueryError → Result (List BoundName) QueryError
names_when status.Current names = names
names_when status.Stale names = Err error.StalePlace
names_when status.Unknown names = Err error.UnknownPlace

-- what each name of the module stands for that a place names, or why it isn't told
abbrev pub names_of : SessionState → PlaceValue → Result (List BoundName) QueryError
names_of s place = names_when (status_of s place) (names_kept s place)
