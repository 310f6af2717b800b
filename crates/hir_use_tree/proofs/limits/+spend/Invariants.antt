use Rattle.std.proofs.Common.{◌≡◌, ◌+◌, drop}
use Rattle.hir_use_tree.specs.UseTree.{use_trees_view, trees_size}
use Rattle.hir_use_tree.proofs.limits.+spend.Given as goal

-- what is left, and what the trees so far took, are what there was
abbrev pub invariant-spend_trees-loop-tree : goal.invariant-spend_trees-loop-tree
invariant-spend_trees-loop-tree l =
    l.left + trees_size (use_trees_view l.tree-items) ≡ l.initial.left + trees_size (use_trees_view (drop l.tree-index l.tree-items))
