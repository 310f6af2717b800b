use Rattle.std.proofs.Common.{drop, map}
use Rattle.hir_session_state.specs.HirTables.SourcePlaces.{source_value}
use Rattle.hir_session_sources.proofs.Lowering.{IsLowering}
use Rattle.hir_session_sources.proofs.source_trees.SourceTrees.lowered.Given as goal

-- of the places so far all that is kept is lowered
abbrev pub invariant-loop-place : goal.invariant-loop-place
invariant-loop-place l = IsLowering l.info l.table l.krate l.self (map source_value (drop l.place-index l.place-items)) l.lowered.items
