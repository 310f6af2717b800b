-- How is a block checked? No public clause speaks of this.
use Rattle.std.specs.Prelude.{List, Result, Ok, Err}
use Rattle.hir_session_state.specs.HirBase.declared.place.PlaceElement.{PlaceElement}
use Rattle.hir_session_state.specs.Refusals.{verdict_with_steps}
use Rattle.hir_session_state.specs.declared.error.EditError.{EditError}
use Rattle.hir_session_state.specs.declared.error.EditError.TheVariants as edit_error

-- what is told where this came of the check of a source, with the steps to its block: that memory ran out before all else
abbrev pub told_with_steps : List PlaceElement → Result (Unit {0}) EditError → Result (Unit {0}) EditError
told_with_steps steps (Ok u) = verdict_with_steps steps (Ok u)
told_with_steps steps (Err edit_error.UnknownCrate) = verdict_with_steps steps (Err edit_error.UnknownCrate)
told_with_steps steps (Err (edit_error.TooLarge limit)) = verdict_with_steps steps (Err (edit_error.TooLarge limit))
told_with_steps steps (Err (edit_error.DependencyOrder krate)) = verdict_with_steps steps (Err (edit_error.DependencyOrder krate))
told_with_steps steps (Err (edit_error.DuplicateId kind id)) = verdict_with_steps steps (Err (edit_error.DuplicateId kind id))
told_with_steps steps (Err edit_error.Memory) = Err edit_error.Memory
