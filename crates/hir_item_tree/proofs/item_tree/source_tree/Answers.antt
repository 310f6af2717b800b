use Rattle.std.proofs.Common.{◌≡◌, sym, ap, ap₂, ◌∙◌}
use Rattle.hir_item_tree.specs.Attributes.{attributes_view}
use Rattle.hir_base.specs.CfgOptions.{is_set}
use Rattle.hir_item_tree.specs.Collected.{Collected, collected_of, merge}
use Rattle.hir_item_tree.specs.Source.{nodes_view, source_view}
use Rattle.hir_item_tree.specs.KeptForest.{KeptForest, kept_attributes, kept_items}
use Rattle.hir_item_tree.specs.ItemTree.{Tree, tree_of}
use Rattle.hir_item_tree.specs.Rows.{rows_view, numbers_of, LaidAll, forest_at}
use Rattle.hir_item_tree.proofs.Shown.{forest_at-laid, IsLaid-laid}
use Rattle.hir_item_tree.proofs.item_tree.source_tree.Goals as goal

-- the rows are laid out from what is kept, from none on
pub invariant_of-result : goal.invariant_of-result
invariant_of-result c =
    let r : LaidAll = record { rows = rows_view c.lower_nodes.new.rows.items; numbers = numbers_of c.in_ok-top-in-Unit.top.items } in
    let f = kept_items (is_set c.args.options.now) (nodes_view c.in-Unit.unit.nodes.items) in
    IsLaid-laid f r (rw c.new-rows.ensures.items at c.in_ok-top-in-Unit.ensures.laid)

-- so they stand for it
pub returns-in_ok-top-in-Unit : goal.returns-in_ok-top-in-Unit
returns-in_ok-top-in-Unit c =
    let r : LaidAll = record { rows = rows_view c.lower_nodes.new.rows.items; numbers = numbers_of c.in_ok-top-in-Unit.top.items } in
    let set = is_set c.args.options.now in
    let f = kept_items set (nodes_view c.in-Unit.unit.nodes.items) in
    let items : forest_at r.rows r.numbers ≡ f = forest_at-laid f r (rw c.new-rows.ensures.items at c.in_ok-top-in-Unit.ensures.laid) in
    let attributes : collected_of c.in_ok-attrs-in-Unit.attrs
    ≡ merge (kept_attributes set (attributes_view c.args.front.now.items)) (kept_attributes set (attributes_view c.in-Unit.unit.attrs.items))
    = c.in_ok-attrs-in-Unit.ensures.value ∙ ap₂ merge c.in_ok-front.ensures.value c.in_ok-own-in-Unit.ensures.value in
    let tree : Collected → KeptForest → Tree = λ a i. record { attributes = a; items = i } in
    record { forest = ap₂ tree attributes items ∙ ap (λ s. tree_of set (attributes_view c.args.front.now.items) (source_view s)) (sym c.in-Unit.is) }
