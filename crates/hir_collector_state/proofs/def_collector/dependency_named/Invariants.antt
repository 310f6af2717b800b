use Rattle.std.proofs.Common.{◌≡◌, drop}
use Rattle.hir_collector_rules.specs.Imports.{dependency_named}
use Rattle.hir_collector_state.proofs.def_collector.dependency_named.Given as goal

-- those that are left have the same first of the name
abbrev pub invariant-loop-dependency : goal.invariant-loop-dependency
invariant-loop-dependency l = dependency_named (drop l.dependency-index l.dependencies) l.name ≡ dependency_named l.dependencies l.name
