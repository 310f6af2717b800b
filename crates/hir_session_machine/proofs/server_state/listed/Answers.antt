-- The diagnostics are told, or why there are none; nothing changes.
use Rattle.std.proofs.Common.{ap, inl, inr, refl, sym, ◌∙◌, List, Result}
use Rattle.hir_session_core.specs.HirMessages.declared.diagnostic.Diagnostic.{Diagnostic}
use Rattle.hir_session_core.specs.HirSessionState.declared.error.DiagnosticsError.{DiagnosticsError}
use Rattle.hir_session_replies.specs.Replies.{diagnostics_reply, diagnostics_error_reply}
use Rattle.hir_session_machine.specs.Machine.Moves.{lists}
use Rattle.hir_session_machine.specs.Machine.AnswersCommand.{calls, finds_no_memory}
use Rattle.hir_session_machine.proofs.server_state.listed.Goals as goal

pub returns-in-Ok : goal.returns-in-Ok
returns-in-Ok c = record {
  step = calls _ _ refl (lists _ refl refl (sym (ap (λ (r : Result (List Diagnostic) DiagnosticsError). diagnostics_reply r) c.in-Ok.ensures.told))) refl;
}

pub returns-in-Err : goal.returns-in-Err
returns-in-Err c = record {
  step = elim c.in-Err.ensures.told [
    | inl memory ↦ finds_no_memory (c.reply_to_diagnostics.ensures.value ∙ ap (λ (e : DiagnosticsError). diagnostics_error_reply e) memory) refl
    | inr refused ↦ calls _ _ refl (lists _ refl refl
        (c.reply_to_diagnostics.ensures.value ∙ sym (ap (λ (r : Result (List Diagnostic) DiagnosticsError). diagnostics_reply r) refused))) refl
  ];
}
