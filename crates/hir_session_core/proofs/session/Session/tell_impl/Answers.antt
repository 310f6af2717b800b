-- What was listed is told over the tables that grew.
use Rattle.std.proofs.Common.{◌∙◌, ap, inl, inr, Err}
use Rattle.hir_assoc_items.specs.declared.error.AssocItemsError.{AssocItemsError}
use Rattle.hir_session_answers.specs.AssocItems.RefusesImpl.{for_memory, for_numbers}
use Rattle.hir_session_core.proofs.Growth.{grown_mark}
use Rattle.hir_session_core.proofs.session.Session.tell_impl.Goals as goal

pub tell-requires : goal.tell-requires
tell-requires c = record { kept = grown_mark _ _ c.list_impl.ensures.grown c.args.id.loc.container.map ∙ c.requires.kept }

pub returns-in_ok-tell-in-Ok-clause-listed : goal.returns-in_ok-tell-in-Ok-clause-listed
returns-in_ok-tell-in-Ok-clause-listed c = record { listing = _; flattened = c.in-Ok.ensures.flattened; tells = c.in_ok-tell-in-Ok.ensures.told }

pub impl_items_error-requires : goal.impl_items_error-requires
impl_items_error-requires c = record { known = λ unknown. c.in-Err.ensures.known (ap (λ (e : AssocItemsError). Err e) unknown) }

pub returns-in-Err-clause-refused : goal.returns-in-Err-clause-refused
returns-in-Err-clause-refused c = elim c.impl_items_error.ensures.value [
  | inl many ↦ for_numbers many.1 (c.in-Err.ensures.many (ap (λ (e : AssocItemsError). Err e) many.0))
  | inr memory ↦ for_memory memory.1
]
