use Rattle.std.proofs.Common.{◌≡◌, ◌||◌, drop}
use Rattle.std.specs.List.{list_any}
use Rattle.hir_ids.specs.declared.ids.Crate.{Crate}
use Rattle.hir_crate_graph.specs.CrateSet.{has_crate, IsAscending}
use Rattle.hir_crate_graph.specs.Graph.{comes_by}
use Rattle.hir_crate_graph.proofs.transitive.TransitiveDependencies.union_of.Given as goal

-- what the set has, and those that are left give, is what all give
abbrev pub invariant-loop-krate : goal.invariant-loop-krate
invariant-loop-krate l =
    ((c : Crate) → (has_crate l.set c || list_any (λ d. comes_by l.self d c) (drop l.krate-index l.dependencies)) ≡ list_any (λ d. comes_by l.self d c)
    l.dependencies)
    × IsAscending l.set
