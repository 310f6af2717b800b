use Rattle.std.proofs.Common.{◌↔◌, ◌≤◌, drop}
use Rattle.hir_use_tree.specs.UseTree.{use_trees_view, trees_depth}
use Rattle.hir_use_tree.proofs.limits.+fits.Given as goal

-- all fit exactly where those that are left do
abbrev pub invariant-fit_nesting-loop-tree : goal.invariant-fit_nesting-loop-tree
invariant-fit_nesting-loop-tree l =
    (trees_depth (use_trees_view (drop l.tree-index l.tree-items)) ≤ l.left) ↔ (trees_depth (use_trees_view l.tree-items) ≤ l.left)
