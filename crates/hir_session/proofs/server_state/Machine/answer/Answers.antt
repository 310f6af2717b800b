-- What the core answers is answered.
use Rattle.std.proofs.Common.{◌≡◌, subst, false}
use Rattle.hir_session_machine.specs.HirWire.Replies.{is_fixed}
use Rattle.hir_session_machine.specs.HirMessages.declared.reply.Reply.TheVariants as reply
use Rattle.hir_session_machine.specs.Machine.{AnswersLine}
use Rattle.hir_session.proofs.server_state.Machine.answer.Goals as goal

pub returns-clause-step : goal.returns-clause-step
returns-clause-step c = subst (λ before. AnswersLine before c.args.line.now c.answer_by.result c.answer_by.new.self) c.self.view_is c.answer_by.ensures.step

pub returns-clause-or_memory : goal.returns-clause-or_memory
returns-clause-or_memory c =
    subst (λ before. is_fixed c.answer_by.result ≡ false → AnswersLine before c.args.line.now reply.Memory c.answer_by.new.self) c.self.view_is
    c.answer_by.ensures.or_memory
