-- The items are listed, or it is told why they are not; calls may have got numbers.
use Rattle.std.proofs.Common.{Some, ap, inl, inr, refl}
use Rattle.hir_session_core.specs.HirSessionState.SessionState.{SessionState}
use Rattle.hir_session_core.specs.HirSessionState.declared.error.ImplItemsError.TheVariants as impl_error
use Rattle.hir_session_core.specs.HirSessionAnswers.AssocItems.RefusesImpl.{for_memory}
use Rattle.hir_session_machine.specs.Machine.AnswersImpl.{lists, gives_up, refuses}
use Rattle.hir_session_machine.specs.Machine.Moves.{asks_for_impl}
use Rattle.hir_session_machine.specs.Machine.AnswersCommand.{calls, finds_no_memory}
use Rattle.hir_session_machine.proofs.server_state.impl_listed.Goals as goal

pub returns-in-Ok : goal.returns-in-Ok
returns-in-Ok c =
    let listed = c.in-Ok.ensures.listed in
    record {
      step = calls _ _ refl (asks_for_impl _ _ refl c.impl_items.ensures.grown (lists listed.0 _ listed.1 listed.2 refl)) refl;
      or_memory =
          λ _. calls _ _ refl (asks_for_impl _ _ refl c.impl_items.ensures.grown (gives_up listed.0 impl_error.Memory listed.1 (for_memory refl) refl)) refl;
    }

pub returns-in-Err : goal.returns-in-Err
returns-in-Err c = elim c.in-Err.ensures.refused [
  | inl verdict ↦ record {
    step = calls _ _ refl (asks_for_impl _ _ refl c.impl_items.ensures.grown (refuses _ verdict.0 verdict.1 c.reply_to_impl.ensures.value)) refl;
    or_memory = λ _. finds_no_memory refl (ap (λ (s : SessionState). Some s) verdict.1);
  }
  | inr given_up ↦ record {
    step =
        calls _ _ refl (asks_for_impl _ _ refl c.impl_items.ensures.grown (gives_up given_up.0 _ given_up.1 given_up.2 c.reply_to_impl.ensures.value)) refl;
    or_memory =
        λ _. calls _ _ refl (asks_for_impl _ _ refl c.impl_items.ensures.grown (gives_up given_up.0 impl_error.Memory given_up.1 (for_memory refl) refl))
        refl;
  }
]
