use Rattle.std.proofs.Common.{◌≡◌, ◌++◌, drop}
use Rattle.hir_collector_begin.proofs.begin.cloned.Given as goal

-- with those that are left, all are copied
abbrev pub invariant-loop-dependency : goal.invariant-loop-dependency
invariant-loop-dependency l = l.copies.items ++ drop l.dependency-index l.dependencies ≡ l.dependencies
