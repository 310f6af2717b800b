use Rattle.std.proofs.Common.{◌≡◌, drop}
use Rattle.hir_use_tree.specs.UseTree.{use_trees_view}
use Rattle.hir_use_tree.specs.Limits.{have_long_tree}
use Rattle.hir_use_tree.proofs.limits.+long.Given as goal

-- there is a long path exactly where those that are left have one
abbrev pub invariant-have_long_path-loop-tree : goal.invariant-have_long_path-loop-tree
invariant-have_long_path-loop-tree l = have_long_tree (use_trees_view (drop l.tree-index l.tree-items)) ≡ have_long_tree (use_trees_view l.tree-items)
