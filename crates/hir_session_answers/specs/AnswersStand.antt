-- What does an answer stand on?
use Rattle.std.specs.Prelude.{◌≡◌, Some, Option}
use Rattle.hir_session_state.specs.HirBase.ModPath.{Path}
use Rattle.hir_session_state.specs.HirBase.Place.{PlaceValue}
use Rattle.hir_session_state.specs.HirIds.declared.ids.MapId.{MapId}
use Rattle.hir_session_state.specs.HirIds.declared.ids.ModuleId.{ModuleId}
use Rattle.hir_session_state.specs.HirDefMapRules.Scoping.{resolution_of}
use Rattle.hir_session_state.specs.HirDefMapRules.Overlay.{overlay}
use Rattle.hir_session_state.specs.HirCollectorRules.Start.{Beginning}
use Rattle.hir_session_state.specs.HirMessages.declared.answer.Answer.{Answer}
use Rattle.hir_session_state.specs.HirMessages.declared.command.MacroStyle.{MacroStyle}
use Rattle.hir_session_state.specs.HirMessages.declared.command.Shadow.{Shadow}
use Rattle.hir_session_state.specs.SessionState.{SessionState, Resolution, workspace_of, finished_of, module_of, read_of, beginning_of, kept_of, IsCurrent}
use Rattle.hir_session_state.specs.SessionState.{IsResolved}
use Rattle.hir_session_state.specs.Due.{IsBehind}
use Rattle.hir_session_state.specs.Kept.{collected_of}
use Rattle.hir_session_answers.specs.Answers.{answer_in, asking_of}
use Rattle.hir_session_answers.specs.LeavesOut.{LeavesNothingOut}

-- what is kept of a map, in which a derivation from the present sources ends, over the present workspace and finished maps, and over all that agree with them
-- on what its run asked for
pub record StandsAt (s : SessionState) (id : MapId) (found : Resolution) : Type 0 where
  pub kept : kept_of s id ≡ Some found
  pub from : Beginning
  pub begun : beginning_of s id ≡ Some from
  pub present : IsResolved s.tables (workspace_of s) (finished_of s) from (collected_of found)
  -- and so is what stands behind it
  pub behind : (j : MapId) → IsBehind s id j → IsCurrent s j

-- the answer is what the path means, from the place's module, over a resolution in which a derivation from the present sources ends, beside the
-- finished maps on which it stands
pub record AnswersStand (s : SessionState) (place : PlaceValue) (path : Path) (shadow : Shadow) (style : Option MacroStyle) (answer : Answer) : Type 0 where
  pub asked_from : ModuleId
  pub named : module_of s place ≡ Some asked_from
  pub found : Resolution
  pub stands : StandsAt s asked_from.map found
  -- and it has a source item wherever scoping gives something
  pub whole : LeavesNothingOut (resolution_of (overlay (read_of s asked_from.map) found.map) (asking_of found.local shadow style) asked_from path).resolved_def
      answer
  pub is : answer ≡ answer_in s.tables (overlay (read_of s asked_from.map) found.map) found.local asked_from path shadow style
