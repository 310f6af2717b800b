use Rattle.std.proofs.Common.{◌≡◌, length}
use Rattle.hir_scope.specs.Scope.Entries.{value_imports_among}
use Rattle.hir_scope.proofs.item_scope.iter.imports.ValueImportsSortedWalkImportId.advance.Given as goal

abbrev pub invariant-next : goal.invariant-next
invariant-next l = value_imports_among l.initial.self.left ≡ value_imports_among l.self.left

abbrev pub decreases-next : goal.decreases-next
decreases-next l = length l.self.left
