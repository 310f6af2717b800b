use Rattle.std.proofs.Common.{◌≡◌, ◌++◌, drop}
use Rattle.hir_base.specs.CfgOptions.{is_set}
use Rattle.hir_item_tree.specs.Source.{nodes_view}
use Rattle.hir_item_tree.specs.SideLists.{entries, entries_view}
use Rattle.hir_item_tree.proofs.side_lists.+push.Given as goal

-- the entries so far, and those of what is left, are all
abbrev pub invariant-push_all_entries-loop-node : goal.invariant-push_all_entries-loop-node
invariant-push_all_entries-loop-node l =
    entries_view l.out.items ++ entries (is_set l.options) (nodes_view (drop l.node-index l.node-items))
    ≡ entries_view l.initial.out.items ++ entries (is_set l.options) (nodes_view l.node-items)
