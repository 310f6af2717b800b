use Rattle.std.proofs.Common.{◌≡◌, length}
use Rattle.hir_scope.specs.Scope.Entries.{imports_among}
use Rattle.hir_scope.proofs.item_scope.iter.imports.ItemImportsSortedWalkImportId.advance.Given as goal

abbrev pub invariant-next : goal.invariant-next
invariant-next l = imports_among l.initial.self.left ≡ imports_among l.self.left

abbrev pub decreases-next : goal.decreases-next
decreases-next l = length l.self.left
