use Rattle.std.proofs.Common.{length}
use Rattle.hir_scope.specs.Scope.Reads.{names_with, AsksInOrder}
use Rattle.hir_scope.proofs.item_scope.names_of.ask_names.Given as goal

abbrev pub invariant-next : goal.invariant-next
invariant-next g l =
    goal.F-IsAlwaysCallable g l.cb
    × ((outcome : _) → AsksInOrder (goal.F-step g) l.cb (names_with g.Def.PartialEq.eq l.def l.left) outcome
    → AsksInOrder (goal.F-step g) l.fn.cb (names_with g.Def.PartialEq.eq l.def l.fn.entries) outcome)

abbrev pub decreases-next : goal.decreases-next
decreases-next g l = length l.left
