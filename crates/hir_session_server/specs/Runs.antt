-- What does a run write?
use Rattle.std.specs.Prelude.{◌≡◌, ℕ, List, ◌++◌, flat_map, Option, Result, Ok, Err}
use Rattle.std.specs.Io.KnownBytes.{Appends, Consumes, IsAtEnd}
use Rattle.hir_session_machine.specs.HirMessages.declared.reply.Reply.{Reply}
use Rattle.hir_session_machine.specs.HirLines.declared.output.Fault.{Fault}
use Rattle.hir_session_machine.specs.HirLines.declared.output.Fault.TheVariants as fault
use Rattle.hir_session_machine.specs.Machine.{MachineState, first_state}
use Rattle.hir_session_machine.specs.HirLines.Output.{WritesPart, reply_line}
use Rattle.hir_session_machine.specs.HirLines.Lines.{ended_lines, lines_of}
use Rattle.hir_session_machine.specs.AnsweredLines.{AnswersLines}
use Rattle.hir_session_machine.specs.Headline.{Headline}

-- the texts of replies, one a line
abbrev pub replies_text : List Reply → List ℕ
replies_text answers = flat_map reply_line answers

-- these lines were answered from the first state on, and all the replies were written
pub record Answered (lines : List (List ℕ)) (before after : Option (List ℕ)) : Type 0 where
  pub answers : List Reply
  pub last : MachineState
  pub answered : AnswersLines first_state lines answers last
  pub headline : Headline lines answers last answered
  pub written : Appends before after (replies_text answers)

-- the first of these lines were answered, and a front of their replies was written, and not all of it
pub record BrokenAt (old : MachineState) (all : List (List ℕ)) (before after : Option (List ℕ)) : Type 0 where
  pub lines : List (List ℕ)
  pub more : List (List ℕ)
  pub answers : List Reply
  pub last : MachineState
  pub split : all ≡ lines ++ more
  pub answered : AnswersLines old lines answers last
  pub written : WritesPart before after (replies_text answers)

-- so it is from the first state on, and the replies hold the headline
pub record BrokenOff (all : List (List ℕ)) (before after : Option (List ℕ)) : Type 0 where
  pub broken : BrokenAt first_state all before after
  pub headline : Headline broken.lines broken.answers broken.last broken.answered

-- what was written by the end of a run that read this input: all lines are answered at the end of the input,
-- the ended lines where a read failed, and a front of the text, from which some is missing, stands where a write failed
abbrev pub Ends : Result (Unit {0}) Fault → List ℕ → Option (List ℕ) → Option (List ℕ) → Option (List ℕ) → Type 0
Ends (Ok done) input left before after = IsAtEnd left × Answered (lines_of input) before after
Ends (Err fault.ReadFault) input left before after = Answered (ended_lines input) before after
Ends (Err fault.WriteFault) input left before after = BrokenOff (lines_of input) before after

-- a run, from the reader's bytes before and after it to the writer's before and after it
abbrev pub Converses : Result (Unit {0}) Fault → Option (List ℕ) → Option (List ℕ) → Option (List ℕ) → Option (List ℕ) → Type 0
Converses result held left before after = (input : List ℕ) × Consumes held left input × Ends result input left before after
