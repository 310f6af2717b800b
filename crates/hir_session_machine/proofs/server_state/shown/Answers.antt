-- The page is shown, or it is told why there is none; nothing changes.
use Rattle.std.proofs.Common.{ap, inl, inr, refl, ◌∙◌}
use Rattle.hir_session_core.specs.HirSessionState.declared.error.TreeTextError.{TreeTextError}
use Rattle.hir_session_replies.specs.Replies.{tree_text_reply}
use Rattle.hir_session_machine.specs.Machine.Moves.{shows, shows_none}
use Rattle.hir_session_machine.specs.Machine.AnswersCommand.{calls, finds_no_memory}
use Rattle.hir_session_machine.proofs.server_state.shown.Goals as goal

pub returns-in-Ok : goal.returns-in-Ok
returns-in-Ok c = record { step = calls _ _ refl (shows _ _ _ refl refl c.in-Ok.ensures.page refl) refl }

pub returns-in-Err : goal.returns-in-Err
returns-in-Err c = record {
  step = elim c.in-Err.ensures.refused [
    | inl memory ↦ finds_no_memory (c.reply_to_tree.ensures.value ∙ ap (λ (e : TreeTextError). tree_text_reply e) memory) refl
    | inr refused ↦ calls _ _ refl (shows_none _ _ _ refl refl refused c.reply_to_tree.ensures.value) refl
  ];
}
