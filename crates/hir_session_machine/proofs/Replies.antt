use Rattle.std.proofs.Common.{◌≡◌, ◌≢◌, ℕ, List, Err, refl}
use Rattle.hir_wire.specs.Commands.{reading_of}
use Rattle.hir_wire.specs.declared.read_error.ReadError.{ReadError}
use Rattle.hir_session_core.specs.HirMessages.declared.reply.Reply.{Reply}
use Rattle.hir_wire.specs.declared.read_error.ReadError.TheVariants as read_error
use Rattle.hir_session_replies.specs.Replies.{read_reply}
use Rattle.hir_session_machine.specs.Machine.{MachineState, AnswersLine}
use Rattle.hir_session_machine.specs.Machine.AnswersLine.{reads_no_command, finds_no_memory_for_line}

-- a line that is no command is refused, unless memory ran out
pub read_refused : (old : MachineState) (line : List ℕ) (e : ReadError) (told : Reply) → told ≡ read_reply e
    → (e ≢ read_error.Memory → reading_of line ≡ Err e) → AnswersLine old line told old
read_refused old line read_error.Json told is read = reads_no_command read_error.Json (read (λ h. let wrong : ⊥ = cc in wrong)) is refl
read_refused old line read_error.Command told is read = reads_no_command read_error.Command (read (λ h. let wrong : ⊥ = cc in wrong)) is refl
read_refused old line (read_error.TooLarge limit) told is read = reads_no_command (read_error.TooLarge limit) (read (λ h. let wrong : ⊥ = cc in wrong)) is refl
read_refused old line read_error.Memory told is read = finds_no_memory_for_line is refl
