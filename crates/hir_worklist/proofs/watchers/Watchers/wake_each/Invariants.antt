use Rattle.std.proofs.Common.{drop}
use Rattle.hir_worklist.specs.Queue.{Queue}
use Rattle.hir_worklist.specs.Types.{Watchers}
use Rattle.hir_worklist.specs.Waking.{IsSamePass, KeepsQueued, WakesEach}
use Rattle.hir_worklist.proofs.watchers.Watchers.wake_each.Given as goal

-- with those that are left, all are woken
abbrev pub invariant-loop-slot : goal.invariant-loop-slot
invariant-loop-slot g l = record {
  woken : (r : Queue) (after : Watchers g.row.K.Denot) → WakesEach g.K.Ord.cmp r after l.worklist l.self (drop l.slot-index l.slots)
      → WakesEach g.K.Ord.cmp r after l.initial.worklist l.initial.self l.slots;
  pass : IsSamePass l.initial.worklist l.worklist;
  queued : KeepsQueued l.initial.worklist l.worklist;
}
