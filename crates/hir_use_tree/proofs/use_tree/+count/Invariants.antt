use Rattle.std.proofs.Common.{◌≡◌, ◌+◌, drop}
use Rattle.hir_use_tree.specs.UseTree.{use_trees_view, trees_size, count_of}
use Rattle.hir_use_tree.proofs.use_tree.+count.Given as goal

-- what is counted so far, with what is left, is the count of all
abbrev pub invariant-count_list-loop-tree : goal.invariant-count_list-loop-tree
invariant-count_list-loop-tree l = record {
  fits : count_of l.count ≡ l.count;
  counted : count_of (l.count + trees_size (use_trees_view (drop l.tree-index l.tree-items))) ≡ count_of (trees_size (use_trees_view l.tree-items));
}
