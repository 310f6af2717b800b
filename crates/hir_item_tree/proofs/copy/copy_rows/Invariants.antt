use Rattle.std.proofs.Common.{◌≡◌, take}
use Rattle.hir_item_tree.specs.Rows.{rows_view}
use Rattle.hir_item_tree.proofs.copy.copy_rows.Given as goal

-- those so far are there again
abbrev pub invariant-loop-row : goal.invariant-loop-row
invariant-loop-row l = rows_view l.copies.items ≡ rows_view (take l.row-index l.row-items)
