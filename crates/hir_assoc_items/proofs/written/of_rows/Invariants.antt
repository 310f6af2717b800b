-- What was read and what is left give the whole list.
use Rattle.std.proofs.Common.{◌≡◌, ◌++◌, length, map}
use Rattle.hir_collector_rules.specs.HirItemTree.SideLists.{row_item}
use Rattle.hir_assoc_items.specs.Written.{written, written_view}
use Rattle.hir_assoc_items.proofs.written.of_rows.Given as goal

abbrev pub invariant-next : goal.invariant-next
invariant-next l = map written_view l.items.items ++ written l.tree l.level (map row_item l.left) ≡ written l.tree l.level (map row_item l.rows)

abbrev pub decreases-next : goal.decreases-next
decreases-next l = length l.left
