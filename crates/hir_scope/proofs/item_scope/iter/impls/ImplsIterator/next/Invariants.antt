use Rattle.std.proofs.Common.{◌≡◌, length}
use Rattle.hir_scope.specs.Scope.Reads.{impls_of_kind}
use Rattle.hir_scope.proofs.item_scope.iter.impls.ImplsIterator.next.Given as goal

abbrev pub invariant-next : goal.invariant-next
invariant-next l = impls_of_kind l.initial.self-inside.kind l.initial.self-inside.left.now ≡ impls_of_kind l.self-inside.kind l.self-inside.left.now

abbrev pub decreases-next : goal.decreases-next
decreases-next l = length l.self-inside.left.now
