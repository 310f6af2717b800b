use Rattle.std.proofs.Common.{◌≡◌, length}
use Rattle.hir_assoc_items.specs.Readers.{types_among}
use Rattle.hir_assoc_items.proofs.assoc.AssociatedTypesIterator.next.Given as goal

abbrev pub invariant-next : goal.invariant-next
invariant-next l = types_among l.initial.self-inside.left.now ≡ types_among l.self-inside.left.now

abbrev pub decreases-next : goal.decreases-next
decreases-next l = length l.self-inside.left.now
