use Rattle.std.proofs.Common.{◌≡◌, ◌<◌, ◌+◌, ◌-◌, ◌*◌, length, min}
use Rattle.hir_collector_state.specs.HirItemTree.Rows.{numbers_of}
use Rattle.hir_collector_state.specs.HirTables.Tables.{KeepsTables}
use Rattle.hir_collector_state.specs.HirNameres.WorldParts.{part_of}
use Rattle.hir_collector_state.specs.HirCollectorRules.Calls.{AreCallsPlaced}
use Rattle.hir_collector_state.specs.HirCollectorRules.Moves.{OnceGrown}
use Rattle.hir_collector_state.specs.HirCollectorRules.TreeReads.{above}
use Rattle.hir_collector_state.specs.Waiting.{IsNotedBeside}
use Rattle.hir_mod_collector.proofs.Walked.{WalksTo}
use Rattle.hir_mod_collector.proofs.mod_collector.+walk.Given as goal
use Rattle.hir_collector_state.specs.HirCollectorRules.State.{core_in}

abbrev pub invariant-walk_all-loop-id : goal.invariant-walk_all-loop-id
invariant-walk_all-loop-id g l = record {
  kept : KeepsTables l.initial.locations l.locations;
  placed : AreCallsPlaced l.initial.locations → AreCallsPlaced l.locations;
  same : g.D.SourceDatabase.workspace l.db ≡ g.D.SourceDatabase.workspace l.initial.db;
  walked : OnceGrown l.locations (g.D.SourceDatabase.workspace l.initial.db) (λ env. WalksTo l.source.value.tree l.site env (part_of l.world) l.ids
      (core_in l.initial.run) (core_in l.run) l.id-index);
  in_range : l.site.home < length (core_in l.run).map.modules;
  noted : IsNotedBeside (part_of l.world) l.initial.run l.run;
}

-- what an item holds has lower numbers, or is deeper, and a file is deeper
abbrev pub decreases-walk_item : goal.decreases-walk_item
decreases-walk_item g l = (32 - l.site.now.dir.depth) * 73786976294838206464 + 2 * l.id.0 + 1

abbrev pub decreases-walk_all : goal.decreases-walk_all
decreases-walk_all g l = (32 - l.site.now.dir.depth) * 73786976294838206464 + 2 * min (above (numbers_of l.ids.now)) 18446744073709551616
