-- The places of the modules so far.
use Rattle.std.proofs.Common.{◌≡◌, ◌++◌}
use Rattle.std.specs.Option.{option_copied}
use Rattle.hir_session_answers.specs.Modules.{places_below}
use Rattle.hir_session_answers.proofs.modules.list_modules.Given as goal

abbrev pub invariant-loop-at : goal.invariant-loop-at
invariant-loop-at l = l.places.items ≡ l.initial.places.items ++ places_below l.tables (option_copied l.path) l.map l.at
