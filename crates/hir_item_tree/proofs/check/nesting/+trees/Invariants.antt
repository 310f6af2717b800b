use Rattle.std.proofs.Common.{◌≡◌, drop}
use Rattle.hir_item_tree.specs.Source.{nodes_view}
use Rattle.hir_item_tree.specs.Limits.{have_deep_tree}
use Rattle.hir_item_tree.proofs.check.nesting.+trees.Given as goal

-- there is a deep use tree exactly where those that are left have one
abbrev pub invariant-any_deep_tree-loop-node : goal.invariant-any_deep_tree-loop-node
invariant-any_deep_tree-loop-node l = have_deep_tree (nodes_view (drop l.node-index l.node-items)) ≡ have_deep_tree (nodes_view l.node-items)
