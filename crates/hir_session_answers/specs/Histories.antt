-- When may two answers to one query differ?
use Rattle.std.specs.Prelude.{◌≡◌, ◌⊎◌, List, Option, Some}
use Rattle.hir_session_state.specs.HirIds.declared.ids.MapId.{MapId}
use Rattle.hir_session_state.specs.HirBase.ModPath.{Path}
use Rattle.hir_session_state.specs.HirBase.Place.{PlaceValue}
use Rattle.hir_session_state.specs.HirCollectorRules.declared.source_database.Key.{Key}
use Rattle.hir_session_state.specs.HirMessages.Edits.{EditValue}
use Rattle.hir_session_state.specs.HirMessages.declared.command.MacroStyle.{MacroStyle}
use Rattle.hir_session_state.specs.HirMessages.declared.command.Shadow.{Shadow}
use Rattle.hir_session_state.specs.SessionState.{SessionState, standing_of, workspace_of, IsSound}
use Rattle.hir_session_state.specs.Standing.{map_by}
use Rattle.hir_session_state.specs.Marks.{IsAltered}
use Rattle.hir_session_state.specs.Due.{Grows, IsAskedBehind}
use Rattle.hir_session_state.specs.Changes.{Applies, Resolves}
use Rattle.hir_session_answers.specs.Answers.{answer_of}

-- edits, refreshes and queries that give numbers to calls, in any order; a refused edit changes nothing, and a refused refresh is one that did less
pub data History (from : SessionState) : SessionState → Type 0 where
  none : History from from
  edit : (mid to : SessionState) (e : EditValue) → History from mid → Applies mid e to → History from to
  refresh : (mid to : SessionState) (done : List PlaceValue) → History from mid → Resolves mid done to → History from to
  numbers : (mid to : SessionState) → History from mid → Grows mid to → History from to

-- an edit on the way altered the key
abbrev pub WasAltered : {from to : SessionState} → Key → History from to → Type 0
WasAltered key none = ⊥
WasAltered key (edit mid to e earlier is) = IsAltered mid.tables (workspace_of mid) (workspace_of to) key ⊎ WasAltered key earlier
WasAltered key (refresh mid to done earlier is) = WasAltered key earlier
WasAltered key (numbers mid to earlier grown) = WasAltered key earlier

-- two answers to a query, of which the first was asked in a place whose steps end in a current map, differ only where an edit between them altered a
-- key that was asked for behind the first
abbrev pub DifferOnlyWhereAltered : Type 0
DifferOnlyWhereAltered = (from to : SessionState) (place : PlaceValue) (id : MapId) (path : Path) (shadow : Shadow) (style : Option MacroStyle)
    → IsSound from → map_by (standing_of from place) ≡ Some id → (h : History from to)
    → (answer_of to place path shadow style ≡ answer_of from place path shadow style)
    ⊎ ((key : Key) × IsAskedBehind from id key × WasAltered key h)
