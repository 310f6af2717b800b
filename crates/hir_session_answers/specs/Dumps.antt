-- What does a dump show?
use Rattle.std.specs.Prelude.{ℕ, List, Option, None, Some, Result, Ok, Err}
use Rattle.hir_session_state.specs.HirBase.Place.{PlaceValue}
use Rattle.hir_session_state.specs.HirIds.declared.ids.ModuleId.{ModuleId}
use Rattle.hir_session_state.specs.HirDefMapRules.Dump.{dump_of}
use Rattle.hir_session_state.specs.HirDefMapRules.Overlay.{Maps, overlay}
use Rattle.hir_session_state.specs.HirMessages.declared.reply.Status.{Status}
use Rattle.hir_session_state.specs.HirMessages.declared.reply.Status.TheVariants as status
use Rattle.hir_session_state.specs.declared.error.QueryError.{QueryError}
use Rattle.hir_session_state.specs.declared.error.QueryError.TheVariants as error
use Rattle.hir_session_state.specs.SessionState.{SessionState, Resolution, finished_of, kept_of, module_of}
use Rattle.hir_session_answers.specs.Status.{status_of}

-- the scopes of what is kept of a map, and those of what holds it
abbrev pub dump_from : Maps → Option Resolution → Result (List ℕ) QueryError
dump_from finished None = Err error.UnknownPlace
dump_from finished (Some r) = Ok (dump_of (overlay finished r.map) r.map.id)

-- those of the map in which a module lies
abbrev pub dump_around : SessionState → Option ModuleId → Result (List ℕ) QueryError
dump_around s None = Err error.UnknownPlace
dump_around s (Some m) = dump_from (finished_of s) (kept_of s m.map)

abbrev pub dump_kept : SessionState → PlaceValue → Result (List ℕ) QueryError
dump_kept s place = dump_around s (module_of s place)

-- the text, where the place's answers stand so
abbrev pub dump_by : Status → Result (List ℕ) QueryError → Result (List ℕ) QueryError
dump_by status.Current text = text
dump_by status.Stale text = Err error.StalePlace
dump_by status.Unknown text = Err error.UnknownPlace

-- the scopes of the whole map in which a place lies, or why they aren't shown
abbrev pub dump_at : SessionState → PlaceValue → Result (List ℕ) QueryError
dump_at s place = dump_by (status_of s place) (dump_kept s place)
