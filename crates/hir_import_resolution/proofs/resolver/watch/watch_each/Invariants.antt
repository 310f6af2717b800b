use Rattle.std.proofs.Common.{◌≡◌, ◌++◌, true, List}
use Rattle.std.specs.List.{All}
use Rattle.hir_nameres.specs.declared.nameres.path_resolution.slots.Slot.{Slot}
use Rattle.hir_worklist.specs.Settling.{WatchesEach}
use Rattle.hir_import_resolution.specs.Inner.Queue.{KeepsWatched, slot_cmp}
use Rattle.hir_import_rules.specs.Lasting.{IsThere}
use Rattle.hir_import_resolution.proofs.resolver.watch.watch_each.Given as goal

-- those that aren't left are watched
abbrev pub invariant-loop-slot : goal.invariant-loop-slot
invariant-loop-slot l = record {
  done : List Slot;
  split : done ++ l.slot-iterator ≡ l.initial.slot-iterator;
  each : WatchesEach slot_cmp l.watchers l.i done;
  there : l.there ≡ true → All (IsThere l.modules) done;
  others : KeepsWatched l.initial.watchers l.watchers;
}
