-- What the names stand for is told, or why it isn't; nothing changes.
use Rattle.std.proofs.Common.{ap, inl, inr, refl, sym, ◌∙◌, List, Result}
use Rattle.hir_session_core.specs.HirMessages.declared.names.BoundName.{BoundName}
use Rattle.hir_session_core.specs.HirSessionState.declared.error.QueryError.{QueryError}
use Rattle.hir_session_replies.specs.Replies.{names_reply, query_error_reply}
use Rattle.hir_session_machine.specs.Machine.Moves.{names_all}
use Rattle.hir_session_machine.specs.Machine.AnswersCommand.{calls, finds_no_memory}
use Rattle.hir_session_machine.proofs.server_state.named.Goals as goal

pub returns-in-Ok : goal.returns-in-Ok
returns-in-Ok c = record {
  step = calls _ _ refl (names_all _ refl refl (sym (ap (λ (r : Result (List BoundName) QueryError). names_reply r) c.in-Ok.ensures.told))) refl;
}

pub returns-in-Err : goal.returns-in-Err
returns-in-Err c = record {
  step = elim c.in-Err.ensures.told [
    | inl memory ↦ finds_no_memory (c.reply_to_query.ensures.value ∙ ap (λ (e : QueryError). query_error_reply e) memory) refl
    | inr refused ↦ calls _ _ refl (names_all _ refl refl
        (c.reply_to_query.ensures.value ∙ sym (ap (λ (r : Result (List BoundName) QueryError). names_reply r) refused))) refl
  ];
}
