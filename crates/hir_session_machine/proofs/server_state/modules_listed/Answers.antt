-- The modules are listed, or it is told why they aren't; nothing changes.
use Rattle.std.proofs.Common.{ap, inl, inr, refl, sym, ◌∙◌, List, Result}
use Rattle.hir_session_core.specs.HirBase.Place.{PlaceValue}
use Rattle.hir_session_core.specs.HirSessionState.declared.error.ModulesError.{ModulesError}
use Rattle.hir_session_replies.specs.Replies.{modules_error_reply, modules_reply}
use Rattle.hir_session_machine.specs.Machine.Moves.{lists_modules}
use Rattle.hir_session_machine.specs.Machine.AnswersCommand.{calls, finds_no_memory}
use Rattle.hir_session_machine.proofs.server_state.modules_listed.Goals as goal

pub returns-in-Ok : goal.returns-in-Ok
returns-in-Ok c = record {
  step = calls _ _ refl (lists_modules _ refl refl (sym (ap (λ (r : Result (List PlaceValue) ModulesError). modules_reply r) c.in-Ok.ensures.listed))) refl;
}

pub returns-in-Err : goal.returns-in-Err
returns-in-Err c = record {
  step = elim c.in-Err.ensures.listed [
    | inl memory ↦ finds_no_memory (c.reply_to_modules.ensures.value ∙ ap (λ (e : ModulesError). modules_error_reply e) memory) refl
    | inr refused ↦ calls _ _ refl (lists_modules _ refl refl
        (c.reply_to_modules.ensures.value ∙ sym (ap (λ (r : Result (List PlaceValue) ModulesError). modules_reply r) refused))) refl
  ];
}
