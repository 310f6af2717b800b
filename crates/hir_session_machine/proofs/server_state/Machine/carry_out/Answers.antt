-- With a session the command is called on it; without one it is the first.
use Rattle.std.proofs.Common.{sym, subst, ◌∙◌, Some, ◌≡◌, false}
use Rattle.hir_session_core.specs.HirMessages.CommandValue.{command_view}
use Rattle.hir_wire.specs.Replies.{is_fixed}
use Rattle.hir_session_core.specs.HirMessages.declared.reply.Reply.TheVariants as reply
use Rattle.hir_session_machine.specs.Machine.{MachineState, AnswersCommand}
use Rattle.hir_session_machine.proofs.server_state.Machine.carry_out.Goals as goal

pub returns-in_default-clause-step : goal.returns-in_default-clause-step
returns-in_default-clause-step g c =
    subst (λ (o : MachineState). AnswersCommand o (command_view c.args.command) c.carry_out_first.result c.carry_out_first.new.self)
    (c.take.ensures.after ∙ (sym c.in_default.is ∙ c.take.ensures.value) ∙ c.self.view_is) c.carry_out_first.ensures.step

pub returns-in_default-clause-or_memory : goal.returns-in_default-clause-or_memory
returns-in_default-clause-or_memory g c =
    subst (λ (o : MachineState). is_fixed c.carry_out_first.result ≡ false → AnswersCommand o (command_view c.args.command) reply.Memory
    c.carry_out_first.new.self)
    (c.take.ensures.after ∙ (sym c.in_default.is ∙ c.take.ensures.value) ∙ c.self.view_is) c.carry_out_first.ensures.or_memory

pub returns-clause-step : goal.returns-clause-step
returns-clause-step g c =
    subst (λ (o : MachineState). AnswersCommand o (command_view c.args.command) c.called-told.result (Some c.called-told.new.session))
    (c.in-Some.ensures.value ∙ c.self.view_is) c.called-told.ensures.step

pub returns-clause-or_memory : goal.returns-clause-or_memory
returns-clause-or_memory g c =
    subst (λ (o : MachineState). is_fixed c.called-told.result ≡ false → AnswersCommand o (command_view c.args.command) reply.Memory
    (Some c.called-told.new.session))
    (c.in-Some.ensures.value ∙ c.self.view_is) c.called-told.ensures.or_memory
