use Rattle.std.proofs.Common.{◌≡◌, ◌++◌, drop}
use Rattle.hir_item_tree.specs.Source.{nodes_view}
use Rattle.hir_item_tree.specs.SyntaxIds.{ids}
use Rattle.hir_item_tree.proofs.check.node_ids.+push.Given as goal

-- the ids so far, and those of what is left, are all
abbrev pub invariant-push_all_ids-loop-node : goal.invariant-push_all_ids-loop-node
invariant-push_all_ids-loop-node l =
    l.out.items ++ ids (nodes_view (drop l.node-index l.node-items)) ≡ l.initial.out.items ++ ids (nodes_view l.node-items)
