use Rattle.std.proofs.Common.{◌≡◌, ◌<◌, refl, ap, subst}
use Rattle.hir_item_tree.specs.KeptForest.{Head}
use Rattle.hir_item_tree.specs.Collected.{collected_of}
use Rattle.hir_item_tree.specs.Rows.{rows_view, row_view, numbers_of, content_of, forest_at}
use Rattle.hir_item_tree.specs.ItemTree.{Tree}
use Rattle.hir_item_tree.proofs.Walked.{IsWhole-laid, length-laid, held_below, IsRowOf, shown_in, head_of_row, content_of_row}
use Rattle.hir_item_tree.proofs.item_tree.ItemTree.row.Goals as goal

-- rows that are laid out hold items of rows before them
pub row_at-requires-clause-whole : goal.row_at-requires-clause-whole
row_at-requires-clause-whole c = IsWhole-laid (rows_view c.self.inside.rows.items) (numbers_of c.self.inside.top.items) c.self.invariant

-- there are as many rows as items
pub row_at-requires-clause-within : goal.row_at-requires-clause-within
row_at-requires-clause-within c =
    let rows = c.self.inside.rows.items in
    let ns = numbers_of c.self.inside.top.items in
    let f : forest_at (rows_view rows) ns ≡ c.args.self.now.items = ap (λ (t : Tree). t.items) c.self.view_is in
    subst (λ n. c.args.id.0 < n) (length-laid rows ns c.args.self.now.items c.self.invariant f) c.requires.there

-- the row stands for the item of its number
pub returns : goal.returns
returns c =
    let rows = rows_view c.self.inside.rows.items in
    let ns = numbers_of c.self.inside.top.items in
    let t = c.args.self.now.items in
    let n = c.args.id.0 in
    let r = c.row_at.result.now in
    let h : Head = (row_view r).head in
    let f : forest_at rows ns ≡ t = ap (λ (t : Tree). t.items) c.self.view_is in
    let is : IsRowOf t n h (content_of r.kind) = shown_in rows ns t n h (content_of r.kind) c.self.invariant f c.row_at.ensures.found in
    record {
      id = head_of_row t n h (content_of r.kind) (λ g. r.id ≡ g.id) is refl;
      visibility = head_of_row t n h (content_of r.kind) (λ g. r.visibility ≡ g.visibility) is refl;
      attributes = head_of_row t n h (content_of r.kind) (λ g. collected_of r.attrs ≡ g.attributes) is refl;
      content = content_of_row t n h (content_of r.kind) is;
      below = held_below n (content_of r.kind) c.row_at.ensures.below;
    }
