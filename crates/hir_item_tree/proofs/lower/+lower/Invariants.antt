use Rattle.std.proofs.Common.{◌≡◌, ◌++◌, drop}
use Rattle.hir_base.specs.CfgOptions.{is_set}
use Rattle.hir_item_tree.specs.Source.{nodes_view}
use Rattle.hir_item_tree.specs.KeptForest.{kept_items, kept_foreign}
use Rattle.hir_item_tree.specs.Rows.{numbers_of, rows_view, lay_all}
use Rattle.hir_item_tree.proofs.lower.+lower.Given as goal

-- the rows so far, and those that are to come, are those of all nodes
abbrev pub invariant-lower_nodes-loop-node : goal.invariant-lower_nodes-loop-node
invariant-lower_nodes-loop-node l =
    let rest = kept_items (is_set l.options) (nodes_view (drop l.node-index l.node-items)) in
    let all = kept_items (is_set l.options) (nodes_view l.node-items) in
    record {
      rows : (lay_all rest (rows_view l.rows.items)).rows ≡ (lay_all all (rows_view l.initial.rows.items)).rows;
      numbers : numbers_of l.ids.items ++ (lay_all rest (rows_view l.rows.items)).numbers ≡ (lay_all all (rows_view l.initial.rows.items)).numbers;
    }

abbrev pub invariant-lower_foreign-loop-node : goal.invariant-lower_foreign-loop-node
invariant-lower_foreign-loop-node l =
    let rest = kept_foreign (is_set l.options) (nodes_view (drop l.node-index l.node-items)) in
    let all = kept_foreign (is_set l.options) (nodes_view l.node-items) in
    record {
      rows : (lay_all rest (rows_view l.rows.items)).rows ≡ (lay_all all (rows_view l.initial.rows.items)).rows;
      numbers : numbers_of l.ids.items ++ (lay_all rest (rows_view l.rows.items)).numbers ≡ (lay_all all (rows_view l.initial.rows.items)).numbers;
    }
