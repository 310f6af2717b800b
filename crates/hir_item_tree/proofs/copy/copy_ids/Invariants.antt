use Rattle.std.proofs.Common.{◌≡◌, take}
use Rattle.hir_item_tree.specs.Rows.{numbers_of}
use Rattle.hir_item_tree.proofs.copy.copy_ids.Given as goal

-- those so far are there again
abbrev pub invariant-loop-id : goal.invariant-loop-id
invariant-loop-id l = numbers_of l.copies.items ≡ numbers_of (take l.id-index l.id-items)
