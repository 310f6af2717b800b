use Rattle.std.proofs.Common.{◌≡◌, ◌++◌, ◌+◌, ◌*◌, drop, [], string_bytes}
use Rattle.hir_item_tree.specs.Rows.{numbers_of, rows_view, items_at, items_behind}
use Rattle.hir_item_tree.specs.Numbers.{AreBelow}
use Rattle.hir_item_tree.specs.Page.{forest_text}
use Rattle.hir_item_tree.proofs.pretty.+put.Given as goal

-- the text so far, and the blocks of the items that are left, are the whole
abbrev pub invariant-put_rows-loop-id : goal.invariant-put_rows-loop-id
invariant-put_rows-loop-id l =
    let items = items_behind [] (rows_view l.rows.items) in
    record {
      numbers : AreBelow l.below (numbers_of (drop l.id-index l.id-items));
      text : string_bytes l.out ++ forest_text l.edition (items_at items (numbers_of (drop l.id-index l.id-items))) l.level l.later
          ≡ string_bytes l.initial.out ++ forest_text l.edition (items_at items (numbers_of l.id-items)) l.level l.initial.later;
    }

-- an item holds items with lower numbers
abbrev pub decreases-put_row : goal.decreases-put_row
decreases-put_row l = 2 * l.number + 1

abbrev pub decreases-put_rows : goal.decreases-put_rows
decreases-put_rows l = 2 * l.below
