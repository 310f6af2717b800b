-- Nothing is kept of any source.
use Rattle.hir_session_invalidation.proofs.Current.{none_current}
use Rattle.hir_session_invalidation.proofs.inputs.Inputs.new.Goals as goal

pub invariant_of-result : goal.invariant_of-result
invariant_of-result c = none_current _ _ c.new-2.ensures.value
