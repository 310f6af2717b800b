-- The query changes nothing, and tells the answer or why there is none.
use Rattle.std.proofs.Common.{ap, inl, inr, refl, sym, ◌∙◌, Result}
use Rattle.hir_session_core.specs.HirMessages.declared.answer.Answer.{Answer}
use Rattle.hir_session_core.specs.HirSessionState.declared.error.QueryError.{QueryError}
use Rattle.hir_session_replies.specs.Replies.{query_reply, query_error_reply}
use Rattle.hir_session_machine.specs.Machine.Moves.{resolves}
use Rattle.hir_session_machine.specs.Machine.AnswersCommand.{calls, finds_no_memory}
use Rattle.hir_session_machine.proofs.server_state.answered.Goals as goal

pub returns-in-Ok : goal.returns-in-Ok
returns-in-Ok c = record {
  step = calls _ _ refl (resolves _ _ _ _ refl refl (sym (ap (λ (r : Result Answer QueryError). query_reply r) c.in-Ok.ensures.answer))) refl;
}

pub returns-in-Err : goal.returns-in-Err
returns-in-Err c = record {
  step = elim c.in-Err.ensures.answer [
    | inl memory ↦ finds_no_memory (c.reply_to_query.ensures.value ∙ ap (λ (e : QueryError). query_error_reply e) memory) refl
    | inr refused ↦ calls _ _ refl (resolves _ _ _ _ refl refl
        (c.reply_to_query.ensures.value ∙ sym (ap (λ (r : Result Answer QueryError). query_reply r) refused))) refl
  ];
}
