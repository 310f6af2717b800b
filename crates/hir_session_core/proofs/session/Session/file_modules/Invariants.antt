-- The modules of the crates so far.
use Rattle.std.proofs.Common.{◌≡◌}
use Rattle.hir_session_answers.specs.Modules.{modules_below}
use Rattle.hir_session_core.proofs.session.Session.file_modules.Given as goal

abbrev pub invariant-loop-k : goal.invariant-loop-k
invariant-loop-k l = l.places.items ≡ modules_below l.self l.file l.k
