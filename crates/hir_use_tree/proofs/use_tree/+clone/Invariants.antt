use Rattle.std.proofs.Common.{◌≡◌, take, map}
use Rattle.hir_use_tree.specs.UseTree.{use_tree_view}
use Rattle.hir_use_tree.proofs.use_tree.+clone.Given as goal

-- those so far are there again
abbrev pub invariant-clone_list-loop-tree : goal.invariant-clone_list-loop-tree
invariant-clone_list-loop-tree l = map use_tree_view l.copies.items ≡ map use_tree_view (take l.tree-index l.tree-items)
