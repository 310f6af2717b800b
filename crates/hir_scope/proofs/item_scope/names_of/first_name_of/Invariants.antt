use Rattle.std.proofs.Common.{◌≡◌, length}
use Rattle.hir_scope.specs.Scope.Reads.{names_with}
use Rattle.hir_scope.proofs.item_scope.names_of.first_name_of.Given as goal

abbrev pub invariant-next : goal.invariant-next
invariant-next g l = names_with g.Def.PartialEq.eq l.def l.fn.entries ≡ names_with g.Def.PartialEq.eq l.def l.left

abbrev pub decreases-next : goal.decreases-next
decreases-next g l = length l.left
