use Rattle.std.proofs.Common.{◌≡◌, ◌<◌, ◌↔◌, sym, ap, subst}
use Rattle.std.specs.Bool.{IsTrue}
use Rattle.hir_item_tree.specs.Rows.{rows_view, numbers_of, forest_at}
use Rattle.hir_item_tree.specs.ItemTree.{Tree}
use Rattle.hir_item_tree.proofs.Walked.{length-laid}
use Rattle.hir_item_tree.proofs.item_tree.ItemTree.contains.Goals as goal

-- there are as many rows as items
pub returns : goal.returns
returns c =
    let rows = c.self.inside.rows.items in
    let ns = numbers_of c.self.inside.top.items in
    let f : forest_at (rows_view rows) ns ≡ c.args.self.now.items = ap (λ (t : Tree). t.items) c.self.view_is in
    record {
      value = subst (λ n. IsTrue c.has_row.result ↔ (c.args.id.0 < n)) (sym (length-laid rows ns c.args.self.now.items c.self.invariant f))
          c.has_row.ensures.value;
    }
