use Rattle.std.proofs.Common.{◌≡◌, length}
use Rattle.hir_crate_graph.specs.Dependencies.{AreTransitive}
use Rattle.hir_collector_rules.specs.Workspace.{direct_by}
use Rattle.hir_collector_fixtures.specs.Crates.{config_in}
use Rattle.hir_collector_fixtures.proofs.crates.transitive.Given as goal

abbrev pub invariant-loop-config : goal.invariant-loop-config
invariant-loop-config l = record { are : AreTransitive (direct_by (config_in l.configs.items)) l.found; count : length l.found ≡ l.config-index }
