-- The modules are listed, and nothing changes.
use Rattle.std.proofs.Common.{ap, refl, List}
use Rattle.hir_session_core.specs.HirBase.Place.{PlaceValue}
use Rattle.hir_session_core.specs.HirMessages.declared.reply.Reply.TheVariants as reply
use Rattle.hir_session_machine.specs.Machine.Moves.{lists_file_modules}
use Rattle.hir_session_machine.specs.Machine.AnswersCommand.{calls, finds_no_memory}
use Rattle.hir_session_machine.proofs.server_state.file_modules_listed.Goals as goal

pub returns-in-Ok : goal.returns-in-Ok
returns-in-Ok c = record {
  step = calls _ _ refl (lists_file_modules _ refl refl (ap (λ (places : List PlaceValue). reply.Places places) c.in-Ok.ensures.listed)) refl;
}

pub returns-in-Err : goal.returns-in-Err
returns-in-Err c = record { step = finds_no_memory refl refl }
