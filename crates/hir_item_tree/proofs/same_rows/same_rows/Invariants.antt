use Rattle.std.proofs.Common.{◌≡◌, ◌↔◌, length, drop}
use Rattle.hir_item_tree.specs.Rows.{rows_view}
use Rattle.hir_item_tree.proofs.same_rows.same_rows.Given as goal

-- all are alike exactly where those that are left are
abbrev pub invariant-loop-i : goal.invariant-loop-i
invariant-loop-i l = (length l.a ≡ length l.b) × ((rows_view (drop l.i l.a) ≡ rows_view (drop l.i l.b)) ↔ (rows_view l.a ≡ rows_view l.b))
