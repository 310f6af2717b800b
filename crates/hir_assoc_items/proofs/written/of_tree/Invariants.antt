-- What was read and what is left give the whole list.
use Rattle.std.proofs.Common.{◌≡◌, ◌++◌, drop, map}
use Rattle.hir_collector_rules.specs.HirItemTree.KeptForest.{all_items}
use Rattle.hir_collector_rules.specs.HirItemTree.Rows.{items_at, numbers_of}
use Rattle.hir_assoc_items.specs.Written.{top_items, written, written_view}
use Rattle.hir_assoc_items.proofs.written.of_tree.Given as goal

abbrev pub invariant-loop-id : goal.invariant-loop-id
invariant-loop-id l =
    map written_view l.items.items ++ written l.tree l.level (top_items (items_at (all_items l.source.items) (numbers_of (drop l.id-index l.id-items))))
    ≡ written l.tree l.level (top_items l.source.items)
