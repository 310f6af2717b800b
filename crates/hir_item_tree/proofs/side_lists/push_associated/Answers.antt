use Rattle.std.proofs.Common.{refl}
use Rattle.hir_base.specs.CfgOptions.{is_set}
use Rattle.hir_item_tree.specs.Source.{node_view}
use Rattle.hir_item_tree.specs.Rows.{Laid, rows_view}
use Rattle.hir_item_tree.proofs.Associated.{added}
use Rattle.hir_item_tree.proofs.side_lists.push_associated.Goals as goal

-- an associated item adds one row, which is the item's
pub returns : goal.returns
returns c =
    let laid : Laid = record { rows = rows_view c.lower_node.new.rows.items; number = c.in_ok-lower_node.field-0.0 } in
    record {
      ok = added (is_set c.args.options.now) (node_view c.args.node.now) c.args.rows.now.items c.lower_node.new.rows.items laid
          c.in_ok-lower_node.ensures.laid refl c.requires.kept;
    }
