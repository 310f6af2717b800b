use Rattle.std.proofs.Common.{◌≡◌, ◌++◌, map}
use Rattle.hir_session_state.specs.HirTables.SourcePlaces.{expansion, expansion_value, source_value}
use Rattle.hir_session_sources.specs.ByCrate.{keys_under}
use Rattle.hir_session_sources.proofs.source_trees.lowering.add_expansions.Given as goal

-- those so far, and those that are left, are all
abbrev pub invariant-loop-key : goal.invariant-loop-key
invariant-loop-key l =
    map source_value l.places.items ++ map (λ key. expansion (expansion_value key)) l.key-iterator
    ≡ map source_value l.initial.places.items ++ map (λ key. expansion (expansion_value key)) (keys_under l.fn.trees l.fn.krate)
