-- Which places does an edit mark?
use Rattle.std.specs.Prelude.{◌≡◌, ◌≢◌, true, Some, Contains}
use Rattle.hir_collector_rules.specs.HirIds.declared.ids.MapId.{MapId}
use Rattle.hir_collector_rules.specs.HirDefMapRules.Overlay.{no_maps}
use Rattle.hir_collector_rules.specs.Workspace.{Workspace}
use Rattle.hir_collector_rules.specs.Keys.{look}
use Rattle.hir_collector_rules.specs.declared.source_database.Key.{Key}
use Rattle.hir_collector_rules.specs.HirTables.Tables.{TablesValue}
use Rattle.hir_session_state.specs.SessionState.{SessionState, Resolution, workspace_of, follows, kept_of, is_marked}
use Rattle.hir_session_state.specs.Spread.{Spread}

-- the workspace becomes another at the key
abbrev pub IsAltered : TablesValue → Workspace → Workspace → Key → Type 0
IsAltered tables old new key = look tables new no_maps key ≢ look tables old no_maps key

-- the place was marked, or asked for a key at which the workspace becomes another
pub data IsTouched (s : SessionState) (w : Workspace) (id : MapId) : Type 0 where
  before : is_marked s id ≡ true → IsTouched s w id
  asked_for : (key : Key) (r : Resolution) → kept_of s id ≡ Some r → Contains r.asked key → IsAltered s.tables (workspace_of s) w key → IsTouched s w id

-- the places that are marked once the workspace is `w`: those that are touched, and all that depends on them
abbrev pub marks_after : SessionState → Workspace → MapId → Type 0
marks_after s w = Spread (follows s) (IsTouched s w)
