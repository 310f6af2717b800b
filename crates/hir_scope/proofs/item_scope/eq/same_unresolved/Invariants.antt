use Rattle.std.proofs.Common.{◌≡◌, length}
use Rattle.std.specs.Prelude.{nat_eq}
use Rattle.std.specs.Cmp.Lexicographic.{pointwise}
use Rattle.hir_scope.specs.Slots.{unresolved_in}
use Rattle.hir_scope.proofs.item_scope.eq.same_unresolved.Given as goal

abbrev pub invariant-walk : goal.invariant-walk
invariant-walk l =
    pointwise (pointwise nat_eq) (unresolved_in l.left) (unresolved_in l.others)
    ≡ pointwise (pointwise nat_eq) (unresolved_in l.fn.entries) (unresolved_in l.fn.other)

abbrev pub decreases-walk : goal.decreases-walk
decreases-walk l = length (unresolved_in l.left)
