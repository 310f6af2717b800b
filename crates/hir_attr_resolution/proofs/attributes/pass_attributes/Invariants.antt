use Rattle.std.proofs.Common.{◌-◌, ◌<◌, length}
use Rattle.hir_collector_state.specs.HirItemTree.KeptForest.{KeptItem}
use Rattle.hir_collector_state.specs.HirTables.Tables.{KeepsTables}
use Rattle.hir_collector_state.specs.HirDefMapRules.Overlay.{Maps}
use Rattle.hir_collector_state.specs.HirCollectorRules.Calls.{AreCallsPlaced}
use Rattle.hir_collector_state.specs.HirCollectorRules.Keys.{Environment}
use Rattle.hir_attr_resolution.specs.Visiting.{IsVisited}
use Rattle.hir_collector_state.specs.HirCollectorRules.State.{core_in}
use Rattle.hir_collector_state.specs.Waiting.{IsNoted}
use Rattle.hir_attr_resolution.proofs.Passing.{PassesTo}
use Rattle.hir_attr_resolution.proofs.attributes.pass_attributes.Given as goal

-- the first so many are done with
abbrev pub invariant-next : goal.invariant-next
invariant-next l = record {
  kept : KeepsTables l.initial.locations l.locations;
  placed : AreCallsPlaced l.initial.locations → AreCallsPlaced l.locations;
  in_range : l.visited.site.now.home < length (core_in l.run).map.modules;
  goes : (env : Environment) (finished : Maps) (item : KeptItem) → KeepsTables l.locations env.tables → IsVisited (core_in l.initial.run).map l.visited item
      → PassesTo env finished (core_in l.initial.run) l.visited item l.fn.from (core_in l.run) l.done;
  noted : IsNoted l.initial.run l.run;
}

abbrev pub decreases-next : goal.decreases-next
decreases-next l = length l.visited.attrs.now - l.done
