use Rattle.std.proofs.Common.{◌≡◌, length}
use Rattle.hir_scope.specs.Scope.Reads.{calls_of_attributes}
use Rattle.hir_scope.proofs.item_scope.iter.calls.first_of_attributes.Given as goal

abbrev pub invariant-next : goal.invariant-next
invariant-next l = calls_of_attributes l.fn.attributes ≡ calls_of_attributes l.left

abbrev pub decreases-next : goal.decreases-next
decreases-next l = length l.left
