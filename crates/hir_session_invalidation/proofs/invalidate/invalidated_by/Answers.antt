-- Each place that asked for a key of the source that is altered is hit.
use Rattle.std.proofs.Common.{None, sym}
use Rattle.hir_session_sources.specs.EditValues.{edit_value}
use Rattle.hir_session_sources.proofs.Changing.{no_trees}
use Rattle.hir_session_state.proofs.Truth.{on_ok}
use Rattle.hir_session_invalidation.proofs.Judging.{all_judged, judged_none}
use Rattle.hir_session_invalidation.proofs.invalidate.invalidated_by.Goals as goal

pub returns-in-Some : goal.returns-in-Some
returns-in-Some c = record {
  hit = on_ok c.invalidated_among.result
      (λ found judged kept held. all_judged c.args.source.now.inputs.now.crates c.args.source.now.tables.now c.args.source.now.inputs.now.sources
      (edit_value c.args.source.now.edit) c.args.source.now.number c.args.source.now.numbered c.args.askers.now _ c.in-Some.ensures.value found.hits.items
      judged kept held)
      c.invalidated_among.ensures.judged;
  trees = c.invalidated_among.ensures.trees;
}

pub returns-in-None : goal.returns-in-None
returns-in-None c = record {
  hit = λ kept held. all_judged c.args.source.now.inputs.now.crates c.args.source.now.tables.now c.args.source.now.inputs.now.sources
      (edit_value c.args.source.now.edit) c.args.source.now.number c.args.source.now.numbered c.args.askers.now None c.in-None.ensures.value
      c.nothing_hit.result.hits.items (judged_none _ _ _ _ c.nothing_hit.ensures.none) kept held;
  trees = no_trees _ _ _ _ c.nothing_hit.ensures.empty;
}
