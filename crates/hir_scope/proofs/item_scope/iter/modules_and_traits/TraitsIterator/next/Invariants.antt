use Rattle.std.proofs.Common.{◌≡◌, length}
use Rattle.std.specs.Map.{values_of}
use Rattle.hir_scope.specs.Scope.Reads.{traits_among}
use Rattle.hir_scope.proofs.item_scope.iter.modules_and_traits.TraitsIterator.next.Given as goal

abbrev pub invariant-next : goal.invariant-next
invariant-next l =
    (traits_among (values_of l.initial.self-inside.bound) ≡ traits_among (values_of l.self-inside.bound))
    × (l.initial.self-inside.unnamed ≡ l.self-inside.unnamed)

abbrev pub decreases-next : goal.decreases-next
decreases-next l = length l.self-inside.bound
