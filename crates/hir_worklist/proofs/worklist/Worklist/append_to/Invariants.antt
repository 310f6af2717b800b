use Rattle.std.proofs.Common.{◌-◌, ◌≤◌}
use Rattle.hir_worklist.specs.Queue.{count_of}
use Rattle.hir_worklist.specs.Waking.{IsLonger}
use Rattle.hir_worklist.proofs.worklist.Worklist.append_to.Given as goal

abbrev pub invariant-things : goal.invariant-things
invariant-things l = record { longer : IsLonger l.initial.self l.self; within : count_of l.initial.self ≤ l.count → count_of l.self ≤ l.count }

abbrev pub decreases-things : goal.decreases-things
decreases-things l = l.count - count_of l.self
