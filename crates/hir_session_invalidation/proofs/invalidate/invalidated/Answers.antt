-- A source without a number is named by no run.
use Rattle.std.proofs.Common.{ap, refl, Option, is_some}
use Rattle.hir_session_state.specs.declared.source_number.SourceNumber.{SourceNumber}
use Rattle.hir_session_sources.specs.EditValues.{edit_value}
use Rattle.hir_session_sources.proofs.Changing.{no_trees}
use Rattle.hir_session_invalidation.proofs.Judging.{unnumbered_hit}
use Rattle.hir_session_state.proofs.Truth.{clash}
use Rattle.hir_session_invalidation.proofs.invalidate.invalidated.Goals as goal

pub returns-in-None : goal.returns-in-None
returns-in-None c = record {
  hit = λ kept held.
      unnumbered_hit c.args.inputs.now.crates c.args.tables.now c.args.inputs.now.sources (edit_value c.args.edit) kept _ c.nothing_hit.ensures.none
      (λ number h. clash (ap (λ (o : Option SourceNumber). is_some o) ((c.in-None.ensures.value number).1 (rw c.place.ensures.value h))) refl);
  trees = no_trees _ _ _ _ c.nothing_hit.ensures.empty;
}
