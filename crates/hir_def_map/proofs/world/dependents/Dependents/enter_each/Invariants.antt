-- What is left is still to be entered.
use Rattle.std.proofs.Common.{length}
use Rattle.hir_def_map.proofs.Entries.{IsEntering}
use Rattle.hir_def_map.proofs.world.dependents.Dependents.enter_each.Given as goal

abbrev pub invariant-next : goal.invariant-next
invariant-next l = IsEntering l.fn.self l.self l.named.keys l.left l.id

abbrev pub decreases-next : goal.decreases-next
decreases-next l = length l.left
