-- What is left is still to be taken out.
use Rattle.std.proofs.Common.{length}
use Rattle.hir_def_map.proofs.Entries.{IsLeaving}
use Rattle.hir_def_map.proofs.world.dependents.Dependents.leave.Given as goal

abbrev pub invariant-next : goal.invariant-next
invariant-next l = IsLeaving l.fn.self l.self l.named.keys l.left l.id

abbrev pub decreases-next : goal.decreases-next
decreases-next l = length l.left
