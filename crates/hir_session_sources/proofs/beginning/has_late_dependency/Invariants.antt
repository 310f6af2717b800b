use Rattle.std.proofs.Common.{◌≡◌, drop}
use Rattle.hir_session_state.specs.Refusals.{dependency_crates, has_late}
use Rattle.hir_session_sources.proofs.beginning.has_late_dependency.Given as goal

abbrev pub invariant-loop-dependency : goal.invariant-loop-dependency
invariant-loop-dependency l = has_late l.k (dependency_crates (drop l.dependency-index l.dependencies)) ≡ has_late l.k (dependency_crates l.dependencies)
