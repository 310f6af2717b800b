use Rattle.std.proofs.Common.{◌≡◌, [], length}
use Rattle.hir_scope.specs.Dump.{in_order, names_of_macros}
use Rattle.hir_scope.proofs.item_scope.ItemScope.legacy_names.Given as goal

abbrev pub invariant-names : goal.invariant-names
invariant-names l = in_order [] (names_of_macros l.initial.left) ≡ in_order l.sorted.keys (names_of_macros l.left)

abbrev pub decreases-names : goal.decreases-names
decreases-names l = length l.left
