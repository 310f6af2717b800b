-- Which sessions stand behind the states of a machine?
use Rattle.std.specs.Prelude.{◌≡◌, ◌⊎◌, ℕ, List, None, Some, Ok}
use Rattle.hir_session_core.specs.HirMessages.CommandValue.{CrateInputValue}
use Rattle.hir_session_core.specs.HirMessages.declared.reply.Reply.{Reply}
use Rattle.hir_session_core.specs.HirSessionState.SessionState.{SessionState, IsSound}
use Rattle.hir_session_core.specs.HirSessionState.Beginning.{Begins}
use Rattle.hir_session_core.specs.HirSessionState.Refusals.{verdict_of_new}
use Rattle.hir_session_machine.specs.Machine.{MachineState, first_state}
use Rattle.hir_session_machine.specs.AnsweredLines.{AnswersLines}
use Rattle.hir_session_core.specs.HirSessionAnswers.Histories.{History}

-- a session began over crates that were not refused, and its history led here
pub record HasBegun (new : MachineState) : Type 0 where
  pub inputs : List CrateInputValue
  pub accepted : verdict_of_new inputs ≡ Ok tt
  pub from : SessionState
  pub begun : Begins inputs from
  pub to : SessionState
  pub is : new ≡ Some to
  pub history : History from to
  pub sound : IsSound to

-- where lines are answered from the first state on, there is no session yet, or one that began and has a history
abbrev pub LinesBeginHistories : Type 0
LinesBeginHistories = (lines : List (List ℕ)) (answers : List Reply) (new : MachineState)
    → AnswersLines first_state lines answers new → (new ≡ None) ⊎ HasBegun new
