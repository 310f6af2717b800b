use Rattle.std.proofs.Common.{◌≡◌, length}
use Rattle.std.specs.Prelude.{nat_eq}
use Rattle.std.specs.Cmp.Lexicographic.{pointwise}
use Rattle.hir_scope.specs.Inner.Equality.{same_entry, same_item}
use Rattle.hir_scope.proofs.item_scope.eq.same_walk.Given as goal

abbrev pub invariant-walk : goal.invariant-walk
invariant-walk g l =
    pointwise (same_entry (pointwise nat_eq) (same_item g.Def.PartialEq.eq g.Import.PartialEq.eq)) l.left l.others
    ≡ pointwise (same_entry (pointwise nat_eq) (same_item g.Def.PartialEq.eq g.Import.PartialEq.eq)) l.fn.walk l.fn.other

abbrev pub decreases-walk : goal.decreases-walk
decreases-walk g l = length l.left
