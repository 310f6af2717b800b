-- An accepted edit is applied; a refused one changes nothing.
use Rattle.std.proofs.Common.{ap, inl, inr, refl, ◌∙◌, Some}
use Rattle.hir_session_core.specs.HirSessionState.declared.error.EditError.{EditError}
use Rattle.hir_session_core.specs.HirSessionState.SessionState.{SessionState}
use Rattle.hir_session_replies.specs.Replies.{edit_reply}
use Rattle.hir_session_machine.specs.Machine.Moves.{applies, refuses}
use Rattle.hir_session_machine.specs.Machine.AnswersCommand.{calls, finds_no_memory}
use Rattle.hir_session_machine.proofs.server_state.edited.Goals as goal
use mathlib.Core.Bool.{true≢false}

pub returns-in-Ok-clause-step : goal.returns-in-Ok-clause-step
returns-in-Ok-clause-step c = calls _ _ refl (applies _ refl c.in-Ok.ensures.answer c.in-Ok.ensures.ok refl) refl

pub returns-in-Ok-clause-or_memory : goal.returns-in-Ok-clause-or_memory
returns-in-Ok-clause-or_memory c h = absurd (true≢false h)

pub returns-in-Err-clause-step : goal.returns-in-Err-clause-step
returns-in-Err-clause-step c = elim c.in-Err.ensures.answer [
  | inl memory ↦ finds_no_memory (c.edit_error_reply.ensures.value ∙ ap (λ (e : EditError). edit_reply e) memory)
      (ap (λ (s : SessionState). Some s) c.in-Err.ensures.err)
  | inr refused ↦ calls _ _ refl (refuses _ _ refl refused c.in-Err.ensures.err c.edit_error_reply.ensures.value) refl
]

pub returns-in-Err-clause-or_memory : goal.returns-in-Err-clause-or_memory
returns-in-Err-clause-or_memory c h = finds_no_memory refl (ap (λ (s : SessionState). Some s) c.in-Err.ensures.err)
