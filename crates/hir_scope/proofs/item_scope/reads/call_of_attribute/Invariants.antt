use Rattle.std.proofs.Common.{◌≡◌, length}
use Rattle.hir_scope.specs.Scope.Reads.{derive_attribute}
use Rattle.hir_scope.proofs.item_scope.reads.call_of_attribute.Given as goal

abbrev pub invariant-next : goal.invariant-next
invariant-next l = derive_attribute l.attr_id l.fn.attributes ≡ derive_attribute l.attr_id l.left

abbrev pub decreases-next : goal.decreases-next
decreases-next l = length l.left
