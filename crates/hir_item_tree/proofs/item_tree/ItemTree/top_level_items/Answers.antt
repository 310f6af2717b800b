use Rattle.std.proofs.Common.{◌≡◌, ◌<◌, length, ap, subst, sym, ◌∙◌}
use Rattle.std.specs.List.{All}
use Rattle.hir_item_tree.specs.KeptForest.{all_items}
use Rattle.hir_item_tree.specs.Rows.{rows_view, numbers_of, items_at, forest_at}
use Rattle.hir_item_tree.specs.ItemTree.{Tree}
use Rattle.hir_item_tree.specs.Types.{ModItemId}
use Rattle.hir_item_tree.proofs.Walked.{items_behind-laid, length-laid, AreBelow-rows, ids_below}
use Rattle.hir_item_tree.proofs.item_tree.ItemTree.top_level_items.Goals as goal

-- the items that have these numbers are those of the forest, and each number is that of a row
pub returns : goal.returns
returns c =
    let rows = c.self.inside.rows.items in
    let top = c.self.inside.top.items in
    let ns = numbers_of top in
    let items = all_items c.args.self.now.items in
    let f : forest_at (rows_view rows) ns ≡ c.args.self.now.items = ap (λ (t : Tree). t.items) c.self.view_is in
    let same = items_behind-laid (rows_view rows) ns c.self.invariant ∙ ap all_items f in
    let below = ids_below (length rows) top (AreBelow-rows rows ns c.self.invariant) in
    let there : All (λ (id : ModItemId). id.0 < length items) top
    = subst (λ n. All (λ (id : ModItemId). id.0 < n) top) (sym (length-laid rows ns c.args.self.now.items c.self.invariant f)) below in
    record {
      value = ap (λ ids. items_at items (numbers_of ids)) c.as_slice.ensures.value ∙ (ap (λ all. items_at all ns) (sym same) ∙ f);
      there = subst (All (λ (id : ModItemId). id.0 < length items)) (sym c.as_slice.ensures.value) there;
    }
