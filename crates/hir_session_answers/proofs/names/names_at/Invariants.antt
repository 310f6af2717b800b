-- What is told, and what is left to tell.
use Rattle.std.proofs.Common.{◌≡◌, ◌++◌, length, map}
use Rattle.hir_session_state.specs.HirNameres.DefMaps.{maps_of}
use Rattle.hir_session_answers.specs.Names.{named_in, names_in}
use Rattle.hir_session_answers.proofs.names.names_at.Given as goal

abbrev pub invariant-names : goal.invariant-names
invariant-names l = l.told.items ++ map (named_in l.tables (maps_of l.maps)) l.left ≡ names_in l.tables (maps_of l.maps) l.scope

abbrev pub decreases-names : goal.decreases-names
decreases-names l = length l.left
