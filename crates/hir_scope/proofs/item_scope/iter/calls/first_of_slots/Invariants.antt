use Rattle.std.proofs.Common.{◌≡◌, length}
use Rattle.hir_scope.specs.Scope.Reads.{calls_among}
use Rattle.hir_scope.proofs.item_scope.iter.calls.first_of_slots.Given as goal

abbrev pub invariant-next : goal.invariant-next
invariant-next l = calls_among l.fn.slots ≡ calls_among l.left

abbrev pub decreases-next : goal.decreases-next
decreases-next l = length l.left
