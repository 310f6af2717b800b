use Rattle.std.proofs.Common.{◌≡◌, ◌++◌, length}
use Rattle.std.specs.List.{flat_map}
use Rattle.std.specs.String.{string_bytes}
use Rattle.hir_scope.specs.Dump.{legacy_line}
use Rattle.hir_scope.proofs.item_scope.ItemScope.dump_legacy.Given as goal

abbrev pub invariant-lines : goal.invariant-lines
invariant-lines l = string_bytes l.initial.buf ++ flat_map (legacy_line l.self) l.initial.left ≡ string_bytes l.buf ++ flat_map (legacy_line l.self) l.left

abbrev pub decreases-lines : goal.decreases-lines
decreases-lines l = length l.left
