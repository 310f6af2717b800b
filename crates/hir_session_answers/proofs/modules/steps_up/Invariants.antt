-- What is left of the way up, and what was taken of it.
use Rattle.std.proofs.Common.{◌≡◌, length}
use Rattle.hir_session_answers.specs.Modules.{steps_to}
use Rattle.hir_session_answers.proofs.Placing.{and_taken}
use Rattle.hir_session_answers.proofs.modules.steps_up.Given as goal

abbrev pub invariant-up : goal.invariant-up
invariant-up l = steps_to l.map (length l.map.modules) l.fn.at ≡ and_taken l.steps.items (steps_to l.map l.left l.now)

-- each step uses one up
abbrev pub decreases-up : goal.decreases-up
decreases-up l = l.left
