use Rattle.std.proofs.Common.{◌≡◌, ◌↔◌, length}
use Rattle.hir_item_tree.proofs.source_tree.are_same_variants.Given as goal

-- the lists are the same exactly where what is left of them is
abbrev pub invariant-next : goal.invariant-next
invariant-next l = (l.left ≡ l.right) ↔ (l.fn.a ≡ l.fn.b)

abbrev pub decreases-next : goal.decreases-next
decreases-next l = length l.left
