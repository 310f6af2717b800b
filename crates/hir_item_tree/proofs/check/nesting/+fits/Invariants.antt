use Rattle.std.proofs.Common.{◌↔◌, ◌≤◌, drop}
use Rattle.hir_item_tree.specs.Source.{nodes_view}
use Rattle.hir_item_tree.specs.Limits.{depth}
use Rattle.hir_item_tree.proofs.check.nesting.+fits.Given as goal

-- all fit exactly where those that are left do
abbrev pub invariant-fit_depth-loop-node : goal.invariant-fit_depth-loop-node
invariant-fit_depth-loop-node l =
    (depth (nodes_view (drop l.node-index l.node-items)) ≤ l.left) ↔ (depth (nodes_view l.node-items) ≤ l.left)
