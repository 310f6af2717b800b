use Rattle.std.proofs.Common.{◌≡◌, ◌++◌, map}
use Rattle.hir_session_state.specs.HirTables.SourcePlaces.{file, source_value}
use Rattle.hir_session_sources.specs.ByCrate.{keys_under}
use Rattle.hir_session_sources.proofs.source_trees.lowering.add_files.Given as goal

-- those so far, and those that are left, are all
abbrev pub invariant-loop-path : goal.invariant-loop-path
invariant-loop-path l =
    map source_value l.places.items ++ map file l.path-iterator ≡ map source_value l.initial.places.items ++ map file (keys_under l.fn.paths l.fn.krate)
