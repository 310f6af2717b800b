use Rattle.std.proofs.Common.{◌≡◌, drop}
use Rattle.hir_item_tree.specs.Source.{nodes_view}
use Rattle.hir_item_tree.specs.Limits.{have_deep_cfg}
use Rattle.hir_item_tree.proofs.check.nesting.+conditions.Given as goal

-- there is a deep condition exactly where those that are left have one
abbrev pub invariant-any_deep_cfg-loop-node : goal.invariant-any_deep_cfg-loop-node
invariant-any_deep_cfg-loop-node l = have_deep_cfg (nodes_view (drop l.node-index l.node-items)) ≡ have_deep_cfg (nodes_view l.node-items)
