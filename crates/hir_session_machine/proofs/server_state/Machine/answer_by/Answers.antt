-- What was read is carried out; a line that is no command changes nothing.
use Rattle.std.proofs.Common.{refl}
use Rattle.hir_session_machine.specs.Machine.AnswersLine.{carries_out, finds_no_memory_for_line}
use Rattle.hir_session_machine.proofs.Replies.{read_refused}
use Rattle.hir_session_machine.proofs.server_state.Machine.answer_by.Goals as goal

pub returns-in-Ok-clause-step : goal.returns-in-Ok-clause-step
returns-in-Ok-clause-step g c = carries_out _ c.in-Ok.ensures.value c.carry_out.ensures.step

pub returns-in-Ok-clause-or_memory : goal.returns-in-Ok-clause-or_memory
returns-in-Ok-clause-or_memory g c h = carries_out _ c.in-Ok.ensures.value (c.carry_out.ensures.or_memory h)

pub returns-in-Err-clause-step : goal.returns-in-Err-clause-step
returns-in-Err-clause-step g c =
    read_refused c.args.self.now c.args.line.now c.in-Err.error c.reply_to_line.result c.reply_to_line.ensures.value c.in-Err.ensures.value

pub returns-in-Err-clause-or_memory : goal.returns-in-Err-clause-or_memory
returns-in-Err-clause-or_memory g c h = finds_no_memory_for_line refl refl
