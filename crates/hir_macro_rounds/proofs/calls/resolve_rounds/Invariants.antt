use Rattle.std.proofs.Common.{◌≡◌, ◌-◌, true}
use Rattle.hir_mod_collector.specs.HirTables.Tables.{KeepsTables}
use Rattle.hir_mod_collector.specs.HirNameres.WorldParts.{part_of}
use Rattle.hir_import_resolution.specs.Rounds.{is_apart as are_apart, is_lasting}
use Rattle.hir_mod_collector.specs.HirImportRules.Changed.{joined}
use Rattle.hir_call_queue.specs.Waking.{is_apart}
use Rattle.hir_mod_collector.specs.HirCollectorRules.CallMoves.{IsReady, NoneWaitsBefore}
use Rattle.hir_mod_collector.specs.HirCollectorRules.declared.start.TheConstants.{STEP_LIMIT}
use Rattle.hir_mod_collector.specs.HirCollectorRules.Calls.{AreCallsPlaced}
use Rattle.hir_mod_collector.specs.HirCollectorRules.Moves.{OnceGrown}
use Rattle.hir_mod_collector.specs.HirCollectorRules.State.{at_rest, core_in}
use Rattle.hir_mod_collector.specs.HirCollectorImports.Waiting.{IsBehind, IsBetweenPasses, IsStale, KeepsApart}
use Rattle.hir_macro_calls.proofs.Queued.{HasRounds}
use Rattle.hir_macro_rounds.proofs.calls.resolve_rounds.Given as goal

abbrev pub invariant-rounds : goal.invariant-rounds
invariant-rounds g l = record {
  kept : KeepsTables l.initial.locations l.locations;
  same : g.D.SourceDatabase.workspace l.db ≡ g.D.SourceDatabase.workspace l.initial.db;
  placed : AreCallsPlaced l.initial.locations → AreCallsPlaced l.locations;
  ready : IsReady l.locations (part_of l.world) (core_in l.run);
  lies : l.apart ≡ true → KeepsApart (part_of l.world) (core_in l.run);
  apart : is_apart l.queue ≡ l.apart;
  stale : IsStale (part_of l.world) l.queue l.run;
  between : IsBetweenPasses l.queue;
  imports : is_lasting l.imports ≡ true → are_apart l.imports ≡ l.apart;
  behind : IsBehind (part_of l.world) l.imports (joined l.grown l.run.changed) l.run;
  rounds : OnceGrown l.locations (g.D.SourceDatabase.workspace l.initial.db) (λ env. HasRounds env (part_of l.world) (at_rest (core_in l.initial.run))
      (at_rest (core_in l.run)) l.rounds);
  first : NoneWaitsBefore (core_in l.run) l.first;
}

abbrev pub decreases-rounds : goal.decreases-rounds
decreases-rounds g l = STEP_LIMIT - (core_in l.run).count
