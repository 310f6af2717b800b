-- How are the lines of an input answered?
use Rattle.std.specs.Prelude.{◌≡◌, ◌⊎◌, ℕ, List, [], ◌∷◌, length, Bool, true, false, nat_le}
use Rattle.hir_session_core.specs.HirBase.declared.limit.Limit.TheVariants as limit
use Rattle.hir_session_core.specs.HirMessages.declared.reply.Reply.{Reply}
use Rattle.hir_session_core.specs.HirMessages.declared.reply.Reply.TheVariants as reply
use Rattle.hir_lines.specs.declared.open_line.TheConstants.{LINE_LIMIT}
use Rattle.hir_session_machine.specs.Machine.{MachineState, AnswersLine}

-- a line within the limit is answered by the machine, or memory for its bytes was refused; one above it is too large
abbrev pub AnswersWithin : Bool → MachineState → List ℕ → Reply → MachineState → Type 0
AnswersWithin true old line answer new = AnswersLine old line answer new ⊎ ((answer ≡ reply.Memory) × (new ≡ old))
AnswersWithin false old line answer new = (answer ≡ reply.TooLarge limit.Line) × (new ≡ old)

-- the answer to one line of the input
abbrev pub AnswersInput : MachineState → List ℕ → Reply → MachineState → Type 0
AnswersInput old line answer new = AnswersWithin (nat_le (length line) LINE_LIMIT) old line answer new

-- lines are answered one after another, each in the state that the one before it left
abbrev pub AnswersLines : MachineState → List (List ℕ) → List Reply → MachineState → Type 0
AnswersLines old [] [] new = new ≡ old
AnswersLines old (line ∷ lines) (answer ∷ answers) new = (mid : MachineState) × AnswersInput old line answer mid × AnswersLines mid lines answers new
AnswersLines old [] (answer ∷ answers) new = ⊥
AnswersLines old (line ∷ lines) [] new = ⊥
