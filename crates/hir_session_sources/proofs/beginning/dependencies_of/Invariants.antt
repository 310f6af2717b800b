use Rattle.std.proofs.Common.{◌≡◌, map, take}
use Rattle.hir_session_state.specs.Beginning.{dependency_of}
use Rattle.hir_session_sources.proofs.beginning.dependencies_of.Given as goal

abbrev pub invariant-loop-dependency : goal.invariant-loop-dependency
invariant-loop-dependency l = l.made.items ≡ map dependency_of (take l.dependency-index l.dependencies)
