-- Too much came up in the list itself.
use Rattle.std.proofs.Common.{ap, Err}
use Rattle.hir_assoc_items.specs.declared.error.AssocItemsError.{AssocItemsError}
use Rattle.hir_session_state.proofs.Truth.{one_error}
use Rattle.hir_session_invalidation.proofs.inputs.assoc_items.list_of_impl.Goals as goal

pub returns-in-Err-clause-many : goal.returns-in-Err-clause-many
returns-in-Err-clause-many c = λ many. c.in-Err.ensures.many (ap (λ (e : AssocItemsError). Err e) (one_error many))
