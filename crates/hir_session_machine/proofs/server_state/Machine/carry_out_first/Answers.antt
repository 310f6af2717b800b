-- The crates begin a session, and any other command comes too soon.
use Rattle.std.proofs.Common.{◌≡◌, ◌∙◌, None, refl, sym, false}
use mathlib.Core.Bool.{true≢false}
use Rattle.hir_session_core.specs.HirMessages.CommandValue.{CommandValue, command_view}
use Rattle.hir_wire.specs.Replies.{is_fixed}
use Rattle.hir_session_core.specs.HirMessages.declared.command.Command.{Command}
use Rattle.hir_session_core.specs.HirMessages.declared.command.Command.TheVariants as commands
use Rattle.hir_session_core.specs.HirMessages.declared.reply.Reply.{Reply}
use Rattle.hir_session_core.specs.HirMessages.declared.reply.Reply.TheVariants as reply
use Rattle.hir_session_machine.specs.Machine.{makes_session, MachineState, AnswersCommand}
use Rattle.hir_session_machine.specs.Machine.AnswersCommand.{begins, calls, comes_too_late, comes_too_soon, finds_no_memory, refuses_session}
use Rattle.hir_session_machine.proofs.server_state.Machine.carry_out_first.Goals as goal

other_command : (command : Command) → ((inputs : _) → command ≡ commands.Crates inputs → ⊥) → makes_session (command_view command) ≡ false
other_command (commands.Crates inputs) other = absurd (other inputs refl)
other_command (commands.Edit e) other = refl
other_command commands.Refresh other = refl
other_command (commands.Resolve at path shadow sub) other = refl
other_command (commands.TraitItems at path) other = refl
other_command (commands.ImplItems at number) other = refl
other_command (commands.Dump at) other = refl
other_command (commands.Status at) other = refl
other_command (commands.Diagnostics krate) other = refl
other_command (commands.Names at) other = refl
other_command (commands.CrateModules krate) other = refl
other_command (commands.FileModules file) other = refl
other_command (commands.Tree krate file) other = refl

-- a reply to the first command whose text takes memory may be told as want of memory: then no session was made
long_reply : {old new : MachineState} {c : CommandValue} {answer : Reply} → old ≡ None → AnswersCommand old c answer new → is_fixed answer ≡ false
    → AnswersCommand old c reply.Memory new
long_reply first (finds_no_memory told same) long = finds_no_memory refl same
long_reply first (begins inputs s is_crates before accepted made told same) long = absurd (true≢false (rw told at long))
long_reply first (refuses_session inputs why is_crates before refused told same) long = finds_no_memory refl (same ∙ sym first)
long_reply first (comes_too_soon other before told same) long = finds_no_memory refl (same ∙ sym first)
long_reply first (comes_too_late s makes before told same) long = finds_no_memory refl (same ∙ sym before)
long_reply first (calls s t before moves same) long = absurd (let wrong : ⊥ = cc in wrong)

pub returns-in-Crates-clause-step : goal.returns-in-Crates-clause-step
returns-in-Crates-clause-step c = rw c.in-Crates.is c.begin.ensures.step

pub returns-in-Crates-clause-or_memory : goal.returns-in-Crates-clause-or_memory
returns-in-Crates-clause-or_memory c = rw c.in-Crates.is (long_reply c.requires.before c.begin.ensures.step)

pub returns : goal.returns
returns c = record {
  step = comes_too_soon (other_command c.args.command c.in_default.not-Crates) c.requires.before refl c.requires.before;
  or_memory = λ _. finds_no_memory refl refl;
}
