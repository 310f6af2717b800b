use Rattle.std.proofs.Common.{◌≡◌, take, []}
use Rattle.hir_session_state.specs.Standing.{down}
use Rattle.hir_session_state.specs.Standing.{Standing as way}
use Rattle.hir_session_answers.specs.Walking.{standing_value}
use Rattle.hir_session_answers.proofs.standing.walk.Given as goal

-- the steps so far lead here
abbrev pub invariant-loop-i : goal.invariant-loop-i
invariant-loop-i l = standing_value l.standing ≡ down l.tables l.blocks l.kept l.krate [] (way.at l.fn.root) (take l.i l.steps)
