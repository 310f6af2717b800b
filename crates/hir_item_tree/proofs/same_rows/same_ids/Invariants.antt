use Rattle.std.proofs.Common.{◌≡◌, ◌↔◌, length, drop}
use Rattle.hir_item_tree.specs.Rows.{numbers_of}
use Rattle.hir_item_tree.proofs.same_rows.same_ids.Given as goal

-- all are alike exactly where those that are left are
abbrev pub invariant-loop-i : goal.invariant-loop-i
invariant-loop-i l = (length l.a ≡ length l.b) × ((numbers_of (drop l.i l.a) ≡ numbers_of (drop l.i l.b)) ↔ (numbers_of l.a ≡ numbers_of l.b))
