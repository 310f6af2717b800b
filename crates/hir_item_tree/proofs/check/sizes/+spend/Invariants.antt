use Rattle.std.proofs.Common.{◌≡◌, ◌+◌, drop}
use Rattle.hir_item_tree.specs.Source.{nodes_view}
use Rattle.hir_item_tree.specs.Limits.{size}
use Rattle.hir_item_tree.proofs.check.sizes.+spend.Given as goal

-- what is left, and what the nodes so far took, are what there was
abbrev pub invariant-spend_all-loop-node : goal.invariant-spend_all-loop-node
invariant-spend_all-loop-node l =
    l.left + size (nodes_view l.node-items) ≡ l.initial.left + size (nodes_view (drop l.node-index l.node-items))
