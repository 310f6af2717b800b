use Rattle.std.proofs.Common.{◌≡◌, drop}
use Rattle.hir_item_tree.specs.Source.{nodes_view}
use Rattle.hir_item_tree.specs.Limits.{have_long_path}
use Rattle.hir_item_tree.proofs.check.long_paths.+paths.Given as goal

-- there is a long path exactly where those that are left have one
abbrev pub invariant-any_long_path-loop-node : goal.invariant-any_long_path-loop-node
invariant-any_long_path-loop-node l = have_long_path (nodes_view (drop l.node-index l.node-items)) ≡ have_long_path (nodes_view l.node-items)
