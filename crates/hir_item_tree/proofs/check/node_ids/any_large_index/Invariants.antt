use Rattle.std.proofs.Common.{◌≡◌, drop}
use Rattle.std.specs.List.{list_any}
use Rattle.hir_item_tree.specs.Limits.{has_large_index}
use Rattle.hir_item_tree.proofs.check.node_ids.any_large_index.Given as goal

-- there is a large index exactly where those that are left have one
abbrev pub invariant-loop-node : goal.invariant-loop-node
invariant-loop-node l = list_any has_large_index (drop l.node-index l.nodes) ≡ list_any has_large_index l.nodes
