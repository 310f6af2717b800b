use Rattle.std.proofs.Common.{◌-◌, length}
use Rattle.hir_collector_state.specs.HirCollectorRules.CallMoves.{NoneWaitsBefore}
use Rattle.hir_collector_state.specs.HirCollectorRules.State.{core_in}
use Rattle.hir_macro_calls.proofs.waiting.first_waiting.Given as goal

-- none waits before this place
abbrev pub invariant-places : goal.invariant-places
invariant-places l = NoneWaitsBefore (core_in l.run) l.i

abbrev pub decreases-places : goal.decreases-places
decreases-places l = length (core_in l.run).calls - l.i
