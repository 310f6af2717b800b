-- What was found and what is left come to what all items come to.
use Rattle.std.proofs.Common.{◌≡◌, ◌-◌, ◌≤◌, map}
use Rattle.hir_collector_rules.specs.HirTables.Tables.{KeepsTables}
use Rattle.hir_collector_rules.specs.Calls.{AreCallsPlaced}
use Rattle.hir_collector_rules.specs.declared.start.TheConstants.{STEP_LIMIT}
use Rattle.hir_assoc_items.specs.Steps.{IsOnItsWay, container_view, left_of, listing_view}
use Rattle.hir_assoc_items.specs.Written.{written_view}
use Rattle.hir_assoc_items.proofs.flatten.flatten.Given as goal

abbrev pub invariant-next : goal.invariant-next
invariant-next g l = record {
  kept : KeepsTables l.initial.locations l.locations;
  others : l.locations ≡ record l.initial.locations { entries = l.locations.entries; calls = l.locations.calls };
  placed : AreCallsPlaced l.initial.locations → AreCallsPlaced l.locations;
  same : g.D.SourceDatabase.workspace l.db ≡ g.D.SourceDatabase.workspace l.initial.db;
  few : l.count ≤ STEP_LIMIT;
  way : IsOnItsWay l.locations (g.D.SourceDatabase.workspace l.initial.db) (container_view l.container) (map written_view l.fn.items.items)
      (left_of l.left.items) (listing_view l.found) l.count;
}

abbrev pub decreases-next : goal.decreases-next
decreases-next g l = STEP_LIMIT - l.count
