use Rattle.std.proofs.Common.{◌≡◌, ◌≤◌}
use Rattle.hir_use_tree.specs.Inner.Leaves.{pending, weight}
use Rattle.hir_use_tree.proofs.expand.next_import.Given as goal

-- nothing was handed out so far
abbrev pub invariant-loop-level : goal.invariant-loop-level
invariant-loop-level l = record {
  same : pending l.levels.items ≡ pending l.initial.levels.items;
  fewer : weight l.levels.items ≤ weight l.initial.levels.items;
}

abbrev pub decreases-loop-level : goal.decreases-loop-level
decreases-loop-level l = weight l.levels.items
