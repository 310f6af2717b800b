use Rattle.hir_session_state.specs.Inputs.{workspace_after, workspace_by}
use Rattle.hir_session_invalidation.specs.Invalidated.{AreChanges}
use Rattle.hir_session_sources.specs.EditValues.{edit_value}
use Rattle.hir_session_invalidation.proofs.Judging.{IsJudging}
use Rattle.hir_session_invalidation.proofs.invalidate.invalidated_among.Given as goal

-- the keys so far were judged, and the others are left
abbrev pub invariant-loop-key : goal.invariant-loop-key
invariant-loop-key l = record {
  judging : IsJudging l.source.tables.now (workspace_by l.source.inputs.now) (workspace_after l.source.inputs.now (edit_value l.source.edit)) l.askers
      l.key-iterator l.hits.items;
  changes : AreChanges l.source.inputs.now (edit_value l.source.edit) l.changes;
}
