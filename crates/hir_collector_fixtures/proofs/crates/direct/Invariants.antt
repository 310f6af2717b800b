use Rattle.std.proofs.Common.{◌≡◌, ◌++◌, drop, map}
use Rattle.hir_collector_rules.specs.declared.source_database.Dependency.{Dependency}
use Rattle.hir_collector_fixtures.proofs.crates.direct.Given as goal

-- with those that are left, all are there
abbrev pub invariant-loop-dependency : goal.invariant-loop-dependency
invariant-loop-dependency l =
    l.crates.items ++ map (λ (d : Dependency). d.krate) (drop l.dependency-index l.config.dependencies.items) ≡ map (λ (d : Dependency). d.krate)
    l.config.dependencies.items
