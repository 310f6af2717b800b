use Rattle.std.proofs.Common.{◌≡◌, ◌++◌, drop, map}
use Rattle.hir_base.specs.CfgOptions.{is_set}
use Rattle.hir_item_tree.specs.Source.{nodes_view}
use Rattle.hir_item_tree.specs.SideLists.{kept_associated, row_item}
use Rattle.hir_item_tree.proofs.side_lists.associated.Given as goal

-- the items so far, and those that are to come, are all
abbrev pub invariant-loop-node : goal.invariant-loop-node
invariant-loop-node l =
    map row_item l.rows.items ++ kept_associated (is_set l.options) (nodes_view (drop l.node-index l.node-items))
    ≡ kept_associated (is_set l.options) (nodes_view l.node-items)
