use Rattle.std.proofs.Common.{◌≡◌, ◌-◌, ◌≤◌, None, length}
use Rattle.hir_mod_collector.specs.HirTables.Tables.{KeepsTables}
use Rattle.hir_mod_collector.specs.HirNameres.WorldParts.{part_of}
use Rattle.hir_call_queue.specs.Waking.{is_apart, worklist_of}
use Rattle.hir_mod_collector.specs.HirCollectorRules.CallMoves.{IsReady}
use Rattle.hir_mod_collector.specs.HirCollectorRules.Calls.{AreCallsPlaced}
use Rattle.hir_mod_collector.specs.HirCollectorRules.Moves.{OnceGrown}
use Rattle.hir_mod_collector.specs.HirCollectorRules.State.{at_rest, core_in}
use Rattle.hir_mod_collector.specs.HirCollectorRules.Steps.{Steps}
use Rattle.hir_mod_collector.specs.HirCollectorImports.Waiting.{IsGathered, IsUpToDate}
use Rattle.hir_macro_calls.proofs.Queued.{AreTried}
use Rattle.hir_macro_rounds.proofs.calls.try_calls.Given as goal

abbrev pub invariant-tries : goal.invariant-tries
invariant-tries g l = record {
  kept : KeepsTables l.initial.locations l.locations;
  same : g.D.SourceDatabase.workspace l.db ≡ g.D.SourceDatabase.workspace l.initial.db;
  placed : AreCallsPlaced l.initial.locations → AreCallsPlaced l.locations;
  steps : OnceGrown l.locations (g.D.SourceDatabase.workspace l.initial.db) (λ env. Steps env (part_of l.world) (at_rest (core_in l.initial.run))
      (at_rest (core_in l.run)));
  ready : IsReady l.locations (part_of l.world) (core_in l.run);
  more : (core_in l.initial.run).settled ≤ (core_in l.run).settled;
  bounded : (core_in l.run).settled ≤ length (core_in l.run).calls;
  apart : is_apart l.queue ≡ is_apart l.initial.queue;
  up_to_date : IsUpToDate (part_of l.world) l.queue (core_in l.run) None;
  gathered : IsGathered (part_of l.world) l.initial.grown l.initial.run l.grown l.run;
  end : (worklist_of l.queue).end ≤ (core_in l.initial.run).settled;
  tried : OnceGrown l.locations (g.D.SourceDatabase.workspace l.initial.db) (λ env. AreTried env (part_of l.world) (core_in l.initial.run) (core_in l.run)
      (worklist_of l.queue).current l.progress);
}

-- each try takes a place behind those that were tried
abbrev pub decreases-tries : goal.decreases-tries
decreases-tries g l = (worklist_of l.queue).end - (worklist_of l.queue).next
