-- In which state is the server between two pieces of the input?
use Rattle.std.specs.Prelude.{ℕ, List, [], Option}
use Rattle.std.specs.Io.KnownBytes.{Appends}
use Rattle.hir_session_machine.specs.HirMessages.declared.reply.Reply.{Reply}
use Rattle.hir_session_server.specs.declared.server.Server.{Server}
use Rattle.hir_session_machine.specs.Machine.{MachineState}
use Rattle.hir_session_machine.specs.HirLines.Output.{WritesPart, reply_line}
use Rattle.hir_session_machine.specs.HirLines.Lines.{cut_from, with_last}
use Rattle.hir_session_machine.specs.AnsweredLines.{AnswersInput, AnswersLines}
use Rattle.hir_session_server.specs.Runs.{replies_text}
use Rattle.hir_session_machine.specs.HirLines.OpenLines.{Holds}

-- the line was answered and the reply was written
abbrev pub Told : Server → List ℕ → Server → Option (List ℕ) → Option (List ℕ) → Type 0
Told old line new before after =
    (answer : Reply) × AnswersInput old.machine line answer new.machine × Appends before after (reply_line answer) × Holds new.line []

-- the line was answered, and a front of the reply was written, and not all of it
abbrev pub BreaksOff : Server → List ℕ → Option (List ℕ) → Option (List ℕ) → Type 0
BreaksOff old line before after =
    (answer : Reply) × (new : MachineState) × AnswersInput old.machine line answer new × WritesPart before after (reply_line answer)

-- the lines that ended in these bytes were answered, and the replies were written
pub record Fed (old : Server) (part bytes : List ℕ) (new : Server) (before after : Option (List ℕ)) : Type 0 where
  pub answers : List Reply
  pub answered : AnswersLines old.machine (cut_from part bytes).0 answers new.machine
  pub written : Appends before after (replies_text answers)
  pub open_line : Holds new.line (cut_from part bytes).1

-- what was left of the input was answered
pub record Finished (old : MachineState) (part : List ℕ) (before after : Option (List ℕ)) : Type 0 where
  pub answers : List Reply
  pub last : MachineState
  pub answered : AnswersLines old (with_last [] part) answers last
  pub written : Appends before after (replies_text answers)
