use Rattle.std.proofs.Common.{◌≡◌, ◌++◌, drop}
use Rattle.hir_nameres.specs.declared.nameres.path_resolution.slots.Slot.{Slot}
use Rattle.hir_worklist.specs.Queue.{Queue}
use Rattle.hir_worklist.specs.declared.watchers.Watchers.{Watchers}
use Rattle.hir_import_resolution.specs.Inner.Queue.{WakesEach}
use Rattle.hir_worklist.specs.Waking.{IsSamePass}
use Rattle.hir_import_resolution.specs.Inner.State.{path_slots}
use Rattle.hir_import_resolution.proofs.resolver.watch.wake_each.Given as goal

-- with those of the slots that are left, all are woken
abbrev pub invariant-loop-slot : goal.invariant-loop-slot
invariant-loop-slot l = record {
  woken : (r : Queue) (after : Watchers Slot) → WakesEach r after l.worklist l.watchers (path_slots (drop l.slot-index l.slots))
      → WakesEach r after l.initial.worklist l.initial.watchers (path_slots l.slots);
  reported : l.reported.items ++ path_slots (drop l.slot-index l.slots) ≡ l.initial.reported.items ++ path_slots l.slots;
  pass : IsSamePass l.initial.worklist l.worklist;
}
