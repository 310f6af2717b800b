use Rattle.std.proofs.Common.{◌≡◌, length}
use Rattle.std.specs.Map.{values_of}
use Rattle.hir_scope.specs.Scope.Reads.{modules_among}
use Rattle.hir_scope.proofs.item_scope.iter.modules_and_traits.ModulesInScopeIterator.next.Given as goal

abbrev pub invariant-next : goal.invariant-next
invariant-next l = modules_among (values_of l.initial.self-inside.left) ≡ modules_among (values_of l.self-inside.left)

abbrev pub decreases-next : goal.decreases-next
decreases-next l = length l.self-inside.left
