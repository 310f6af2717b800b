use Rattle.std.proofs.Common.{◌≡◌, ◌++◌, drop}
use Rattle.hir_collector_rules.proofs.names.cloned.Given as goal

-- with those that are left, all are copied
abbrev pub invariant-loop-name : goal.invariant-loop-name
invariant-loop-name l = l.copies.items ++ drop l.name-index l.names ≡ l.names
