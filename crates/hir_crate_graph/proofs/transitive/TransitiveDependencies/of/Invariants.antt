use Rattle.std.proofs.Common.{◌≡◌, map, length}
use Rattle.hir_crate_graph.specs.Dependencies.{AreTransitive}
use Rattle.hir_crate_graph.specs.Graph.{crates_at}
use Rattle.hir_crate_graph.proofs.transitive.TransitiveDependencies.of.Given as goal

-- the crates so far have their transitive dependencies
abbrev pub invariant-loop-crates : goal.invariant-loop-crates
invariant-loop-crates l = AreTransitive (crates_at (map (λ crates. crates.items) l.direct)) l.transitive × (length l.transitive ≡ l.crates-index)
