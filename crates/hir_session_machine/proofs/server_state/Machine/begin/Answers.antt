-- The session begins as the definition says, or is refused as that says.
use Rattle.std.proofs.Common.{ap, inl, inr, refl, ◌∙◌}
use Rattle.hir_session_core.specs.HirSessionState.declared.error.NewSessionError.{NewSessionError}
use Rattle.hir_session_replies.specs.Replies.{new_reply}
use Rattle.hir_session_machine.specs.Machine.AnswersCommand.{begins, refuses_session, finds_no_memory}
use Rattle.hir_session_machine.proofs.server_state.Machine.begin.Goals as goal

pub returns-in-Ok : goal.returns-in-Ok
returns-in-Ok c = record { step = begins _ _ refl c.requires.before c.in-Ok.ensures.accepted c.in-Ok.ensures.begins refl refl }

pub returns-in-Err : goal.returns-in-Err
returns-in-Err c = record {
  step = elim c.in-Err.ensures.refused [
    | inl memory ↦ finds_no_memory (c.new_error_reply.ensures.value ∙ ap (λ (e : NewSessionError). new_reply e) memory) refl
    | inr refused ↦ refuses_session _ _ refl c.requires.before refused c.new_error_reply.ensures.value c.requires.before
  ];
}
