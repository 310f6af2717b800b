use Rattle.std.proofs.Common.{◌≡◌, ◌++◌, List}
use Rattle.std.specs.List.{All}
use Rattle.hir_nameres.specs.declared.nameres.path_resolution.slots.Slot.{Slot}
use Rattle.hir_worklist.specs.Settling.{WatchesEach}
use Rattle.hir_import_resolution.specs.Inner.Queue.{KeepsWatched, slot_cmp}
use Rattle.hir_import_rules.specs.Changed.{IsThere}
use Rattle.hir_call_queue.proofs.queue.watch_each.Given as goal

-- those that aren't left are there and watched
abbrev pub invariant-loop-slot : goal.invariant-loop-slot
invariant-loop-slot l = record {
  done : List Slot;
  split : done ++ l.slot-iterator ≡ l.initial.slot-iterator;
  each : WatchesEach slot_cmp l.watchers l.i done;
  there : All (IsThere l.modules) done;
  others : KeepsWatched l.initial.watchers l.watchers;
}
