use Rattle.std.proofs.Common.{◌≡◌}
use Rattle.hir_session_state.specs.Standing.{file_around, file_within}
use Rattle.hir_session_answers.proofs.definition_files.outermost_file.Given as goal

-- the file around the syntax is that around the outermost call so far
abbrev pub invariant-calls : goal.invariant-calls
invariant-calls l = file_around l.tables l.fn.file ≡ file_within l.left l.tables l.at

-- each call uses one up
abbrev pub decreases-calls : goal.decreases-calls
decreases-calls l = l.left
