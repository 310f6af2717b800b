use Rattle.std.proofs.Common.{◌≡◌, ◌++◌, drop}
use Rattle.hir_use_tree.specs.UseTree.{use_trees_view, all_parts}
use Rattle.hir_use_tree.specs.Positions.{trees_at}
use Rattle.hir_use_tree.proofs.lower.+push.Given as goal

-- the parts so far, with those of the trees that are left, are all
abbrev pub invariant-push_all_parts-loop-tree : goal.invariant-push_all_parts-loop-tree
invariant-push_all_parts-loop-tree l =
    trees_at l.out.items ++ all_parts (use_trees_view (drop l.tree-index l.tree-items)) ≡ trees_at l.initial.out.items ++ all_parts
    (use_trees_view l.tree-items)
