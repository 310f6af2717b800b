-- How does the code go down a place? No public clause speaks of this.
use Rattle.std.specs.Prelude.{ℕ, Bool, List, cond, Option, Some, None}
use Rattle.hir_session_state.specs.HirBase.declared.place.BlockPlace.{BlockPlace}
use Rattle.hir_session_state.specs.HirTables.Tables.{TablesValue}
use Rattle.hir_session_state.specs.Kept.{Resolutions}
use Rattle.hir_session_state.specs.Standing.{Standing, child_kept, kept_block, to_child, to_root}
use Rattle.hir_session_state.specs.Standing.Standing.{at, lacks, stale, unset}
use Rattle.hir_session_answers.specs.declared.standing.PlaceStanding.{PlaceStanding}
use Rattle.hir_session_answers.specs.declared.standing.PlaceStanding.TheVariants as code

-- where steps lead, as the code has it
abbrev pub standing_value : PlaceStanding → Standing
standing_value (code.At m) = at m
standing_value (code.Lacks id) = lacks id
standing_value code.Stale = stale
standing_value code.Unset = unset

-- a step to the child of a name
abbrev pub to_name : Resolutions → Standing → List ℕ → Standing
to_name kept (at m) name = to_child m.map (child_kept kept m name)
to_name kept (lacks id) name = lacks id
to_name kept stale name = stale
to_name kept unset name = unset

-- a step to a block that is set, or isn't, and leads here where it is
abbrev pub to_block : Standing → Bool → Standing → Standing
to_block (at m) set here = cond set here unset
to_block (lacks id) set here = lacks id
to_block stale set here = cond set stale unset
to_block unset set here = unset

-- where the root of a block is, if it is set
abbrev pub root_kept : TablesValue → Resolutions → Option BlockPlace → Standing
root_kept tables kept None = unset
root_kept tables kept (Some place) = to_root (kept_block tables kept place)
