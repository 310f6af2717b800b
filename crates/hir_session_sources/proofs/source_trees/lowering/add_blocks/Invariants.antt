use Rattle.std.proofs.Common.{◌≡◌, ◌++◌, map}
use Rattle.hir_session_state.specs.HirTables.SourcePlaces.{block, source_value}
use Rattle.hir_session_sources.specs.ByCrate.{keys_under}
use Rattle.hir_session_sources.proofs.source_trees.lowering.add_blocks.Given as goal

-- those so far, and those that are left, are all
abbrev pub invariant-loop-place : goal.invariant-loop-place
invariant-loop-place l =
    map source_value l.places.items ++ map block l.place-iterator ≡ map source_value l.initial.places.items ++ map block (keys_under l.fn.trees l.fn.krate)
