-- Turns, one after another, until nothing that waits leads anywhere and no attribute waits, or there were too many rounds.
use Rattle.std.proofs.Common.{rules, ◌≡◌, ◌∙◌, ap, refl, subst, sym, false, arith, ◌<◌, length}
use Rattle.hir_mod_collector.specs.HirIds.declared.ids.MapId.{MapId}
use Rattle.hir_mod_collector.proofs.HirTables.Growth.{KeepsTables-trans}
use Rattle.hir_mod_collector.specs.HirDefMapRules.Overlay.{Maps}
use Rattle.hir_mod_collector.specs.HirNameres.WorldParts.{part_of}
use Rattle.hir_worklist.specs.Queue.{Queue}
use Rattle.hir_import_resolution.specs.Rounds.{is_lasting}
use Rattle.hir_mod_collector.specs.HirImportRules.Changed.{joined}
use Rattle.hir_macro_rounds.specs.declared.calls.Turn.{Turn}
use Rattle.hir_macro_rounds.specs.declared.calls.Turn.TheVariants.{GaveUp, Round}
use Rattle.hir_mod_collector.specs.HirCollectorRules.CallMoves.{ComesToRest, EndsInRound, NoneWaitsBefore, cut_off, rested}
use Rattle.hir_macro_rounds.specs.Turns.{CountsOn, TakesTurn}
use Rattle.hir_mod_collector.specs.HirCollectorRules.Derivation.{IsSpent}
use Rattle.hir_mod_collector.specs.HirCollectorRules.Keys.{Environment, environment}
use Rattle.hir_mod_collector.specs.HirCollectorRules.Moves.{OnceGrown}
use Rattle.hir_mod_collector.specs.HirCollectorRules.Rounds as rounds
use Rattle.hir_mod_collector.specs.HirCollectorRules.State.{Core, at_rest, core_in}
use Rattle.hir_mod_collector.specs.HirCollectorRules.Steps as steps
use Rattle.hir_mod_collector.specs.HirCollectorRules.Steps.{Steps}
use Rattle.hir_mod_collector.specs.HirCollectorRules.UnknownSources.{LeadsToUnknownSource}
use Rattle.hir_mod_collector.specs.HirCollectorRules.Workspace.{Workspace}
use Rattle.hir_mod_collector.proofs.HirCollectorRules.Moves.{Steps-append, spent_after, unknown_after}
use Rattle.hir_mod_collector.proofs.HirCollectorRules.Numbers.{known_step, refused_step, tables_stay}
use Rattle.hir_mod_collector.proofs.HirCollectorImports.Ready.{ready_after, ready_grown}
use Rattle.hir_mod_collector.proofs.HirCollectorImports.Outside.{apart-Steps}
use Rattle.hir_macro_calls.proofs.Queued.{has_rounds_steps, rounds_next, rounds_then}
use Rattle.hir_macro_calls.proofs.Resuming.{behind_first}
use Rattle.hir_macro_calls.proofs.UpToDate.{stale_now, up_to_date_first}
use Rattle.hir_macro_rounds.proofs.calls.resolve_rounds.Goals as goal

pub rounds-init : goal.rounds-init
rounds-init g c = record {
  kept = tables_stay c.args.locations.now;
  same = refl;
  placed = λ placed. placed;
  ready = c.requires.ready;
  lies = c.requires.apart;
  apart = c.new-queue.ensures.apart;
  stale =
      stale_now (part_of c.args.world) c.new-queue.result c.args.run (up_to_date_first (part_of c.args.world) c.new-queue.result (core_in c.args.run)
      c.new-queue.ensures.none);
  between = record { over = ap (λ (q : Queue). q.current) c.new-queue.ensures.none; outside = ap (λ (q : Queue). q.end) c.new-queue.ensures.none };
  imports = λ lasting. absurd (let none : is_lasting c.none-imports.result ≡ false = c.none-imports.ensures.value in let no : ⊥ = cc in no);
  behind =
      behind_first (part_of c.args.world) c.none-imports.result (joined c.everything-grown.result c.args.run.changed) c.args.run c.none-imports.ensures.value;
  rounds = λ grown k. record { last = at_rest (core_in c.args.run); rounds = rounds.none (at_rest (core_in c.args.run)) steps.none; after = steps.none };
  first = record { inside = omega arith; none = λ j w. omega arith };
}

pub take_turn-requires-clause-apart : goal.take_turn-requires-clause-apart
take_turn-requires-clause-apart g c = c.rounds.invariant.lies

pub returns-in_err-next-clause-kept : goal.returns-in_err-next-clause-kept
returns-in_err-next-clause-kept g c =
    KeepsTables-trans c.args.locations.now c.rounds.locations c.take_turn.new.locations c.rounds.invariant.kept c.in_err-next.ensures.kept

pub returns-in_err-next-clause-many : goal.returns-in_err-next-clause-many
returns-in_err-next-clause-many g c = λ h grown k.
    let w = g.D.SourceDatabase.workspace c.args.db.now in
    let later = c.take_turn.new.locations in
    let far : OnceGrown later w (λ env. IsSpent env (part_of c.args.world) (at_rest (core_in c.rounds.run))) =
    subst (λ (v : Workspace). OnceGrown later v (λ env. IsSpent env (part_of c.args.world) (at_rest (core_in c.rounds.run)))) c.rounds.invariant.same
    (c.in_err-next.ensures.many (search rules)) in
    spent_after (has_rounds_steps (environment grown w) (part_of c.args.world) (core_in c.args.run) (at_rest (core_in c.rounds.run)) c.rounds.rounds
    (c.rounds.invariant.rounds grown (KeepsTables-trans c.rounds.locations later grown c.in_err-next.ensures.kept k))) (far grown k)

pub returns-in_err-next-clause-unknown : goal.returns-in_err-next-clause-unknown
returns-in_err-next-clause-unknown g c = λ h.
    let w = g.D.SourceDatabase.workspace c.args.db.now in
    let later = c.take_turn.new.locations in
    unknown_after (has_rounds_steps (environment later w) (part_of c.args.world) (core_in c.args.run) (at_rest (core_in c.rounds.run)) c.rounds.rounds
    (c.rounds.invariant.rounds later c.in_err-next.ensures.kept))
    (subst (λ (v : Workspace). LeadsToUnknownSource (environment later v) (part_of c.args.world) (at_rest (core_in c.rounds.run))) c.rounds.invariant.same
    (c.in_err-next.ensures.unknown (search rules)))

-- ---- behind a turn

pub rounds-preserved-in-Round : goal.rounds-preserved-in-Round
rounds-preserved-in-Round g c =
    let w = g.D.SourceDatabase.workspace c.args.db.now in
    let part = part_of c.args.world in
    let old = core_in c.args.run in
    let now = core_in c.rounds.run in
    let new = core_in c.in_ok-next.next in
    let later = c.take_turn.new.locations in
    let kept = c.in_ok-next.ensures.kept in
    let step : OnceGrown later w (λ env. Steps env part (at_rest now) (at_rest new)) =
    subst (λ (v : Workspace). OnceGrown later v (λ env. Steps env part (at_rest now) (at_rest new))) c.rounds.invariant.same c.in_ok-next.ensures.ok in
    let turned : OnceGrown later w (λ env. EndsInRound env part now new c.rounds.first) =
    subst (λ (v : Workspace). OnceGrown later v (λ env. EndsInRound env part now new c.rounds.first)) c.rounds.invariant.same
    (subst (λ (t : Turn). OnceGrown later (g.D.SourceDatabase.workspace c.rounds.db) (λ env. TakesTurn env part now new c.rounds.first t)) c.in-Round.is
    c.in_ok-next.ensures.turned) in
    let here : Steps (environment later w) part (at_rest now) (at_rest new) = step later (tables_stay later) in
    record {
      kept = KeepsTables-trans c.args.locations.now c.rounds.locations later c.rounds.invariant.kept kept;
      same = c.in_ok-next.ensures.same ∙ c.rounds.invariant.same;
      placed = λ placed. c.in_ok-next.ensures.placed (c.rounds.invariant.placed placed);
      ready = ready_after here (ready_grown kept c.rounds.invariant.ready);
      lies = λ yes. apart-Steps now new here (c.rounds.invariant.lies yes);
      apart = c.in_ok-next.ensures.queue ∙ c.rounds.invariant.apart;
      stale = c.in_ok-next.ensures.stale;
      between = c.in_ok-next.ensures.between;
      imports = λ lasting. c.in_ok-next.ensures.imports;
      behind = c.in_ok-next.ensures.behind;
      rounds = λ grown k.
          let before = c.rounds.invariant.rounds grown (KeepsTables-trans c.rounds.locations later grown kept k) in
          let t = turned grown k in rounds_next (environment grown w) part old (at_rest now) t.begun new c.rounds.rounds before t.before t.round;
      first = (turned later (tables_stay later)).none;
    }

pub rounds-preserved : goal.rounds-preserved
rounds-preserved g c =
    let w = g.D.SourceDatabase.workspace c.args.db.now in
    let part = part_of c.args.world in
    let old = core_in c.args.run in
    let now = core_in c.rounds.run in
    let new = core_in c.in_ok-next.next in
    let later = c.take_turn.new.locations in
    let kept = c.in_ok-next.ensures.kept in
    let step : OnceGrown later w (λ env. Steps env part (at_rest now) (at_rest new)) =
    subst (λ (v : Workspace). OnceGrown later v (λ env. Steps env part (at_rest now) (at_rest new))) c.rounds.invariant.same c.in_ok-next.ensures.ok in
    let turned : OnceGrown later w (λ env. NoneWaitsBefore new c.in-GaveUp.behind) =
    subst (λ (v : Workspace). OnceGrown later v (λ env. NoneWaitsBefore new c.in-GaveUp.behind)) c.rounds.invariant.same
    (subst (λ (t : Turn). OnceGrown later (g.D.SourceDatabase.workspace c.rounds.db) (λ env. TakesTurn env part now new c.rounds.first t)) c.in-GaveUp.is
    c.in_ok-next.ensures.turned) in
    let here : Steps (environment later w) part (at_rest now) (at_rest new) = step later (tables_stay later) in
    record {
      kept = KeepsTables-trans c.args.locations.now c.rounds.locations later c.rounds.invariant.kept kept;
      same = c.in_ok-next.ensures.same ∙ c.rounds.invariant.same;
      placed = λ placed. c.in_ok-next.ensures.placed (c.rounds.invariant.placed placed);
      ready = ready_after here (ready_grown kept c.rounds.invariant.ready);
      lies = λ yes. apart-Steps now new here (c.rounds.invariant.lies yes);
      apart = c.in_ok-next.ensures.queue ∙ c.rounds.invariant.apart;
      stale = c.in_ok-next.ensures.stale;
      between = c.in_ok-next.ensures.between;
      imports = λ lasting. c.in_ok-next.ensures.imports;
      behind = c.in_ok-next.ensures.behind;
      rounds = λ grown k.
          let before = c.rounds.invariant.rounds grown (KeepsTables-trans c.rounds.locations later grown kept k) in
          rounds_then (environment grown w) part old (at_rest now) (at_rest new) c.rounds.rounds before (step grown k);
      first = turned later (tables_stay later);
    }

-- the measure: steps are counted in each turn that isn't the last, and no more than may be
pub rounds-smaller : goal.rounds-smaller
rounds-smaller g c =
    let on : CountsOn (core_in c.rounds.run) (core_in c.in_ok-next.next) (GaveUp c.in-GaveUp.behind) = subst
    (CountsOn (core_in c.rounds.run) (core_in c.in_ok-next.next)) c.in-GaveUp.is c.in_ok-next.ensures.counts in
    omega (arith, on, c.count-is_counted.ensures.value, c.count-is_counted.ensures.small)

pub rounds-smaller-in-Round : goal.rounds-smaller-in-Round
rounds-smaller-in-Round g c =
    let on : CountsOn (core_in c.rounds.run) (core_in c.in_ok-next.next) Round = subst (CountsOn (core_in c.rounds.run) (core_in c.in_ok-next.next))
    c.in-Round.is c.in_ok-next.ensures.counts in
    omega (arith, on, c.count-is_counted.ensures.value, c.count-is_counted.ensures.small)

-- ---- nothing leads anywhere

pub returns-in-Rests-clause-kept : goal.returns-in-Rests-clause-kept
returns-in-Rests-clause-kept g c =
    KeepsTables-trans c.args.locations.now c.rounds.locations c.take_turn.new.locations c.rounds.invariant.kept c.in_ok-next.ensures.kept

pub returns-in-Rests-clause-placed : goal.returns-in-Rests-clause-placed
returns-in-Rests-clause-placed g c = λ placed. c.in_ok-next.ensures.placed (c.rounds.invariant.placed placed)

pub returns-in-Rests-clause-ok : goal.returns-in-Rests-clause-ok
returns-in-Rests-clause-ok g c = λ grown k.
    let w = g.D.SourceDatabase.workspace c.args.db.now in
    let part = part_of c.args.world in
    let later = c.take_turn.new.locations in
    let step : OnceGrown later w (λ env. Steps env part (at_rest (core_in c.rounds.run)) (at_rest (core_in c.in_ok-next.next))) =
    subst (λ (v : Workspace). OnceGrown later v (λ env. Steps env part (at_rest (core_in c.rounds.run)) (at_rest (core_in c.in_ok-next.next))))
    c.rounds.invariant.same c.in_ok-next.ensures.ok in
    Steps-append (has_rounds_steps (environment grown w) part (core_in c.args.run) (at_rest (core_in c.rounds.run)) c.rounds.rounds
    (c.rounds.invariant.rounds grown (KeepsTables-trans c.rounds.locations later grown c.in_ok-next.ensures.kept k))) (step grown k)

-- where a run rests doesn't say where it began
rests_from : (env : Environment) (finished : Maps) (began old new : Core) → ComesToRest env finished old new false → ComesToRest env finished began new false
rests_from env finished began old new (rested imports nowhere none) = rested imports nowhere none

pub returns-in-Rests-clause-rests : goal.returns-in-Rests-clause-rests
returns-in-Rests-clause-rests g c = λ grown k.
    let w = g.D.SourceDatabase.workspace c.args.db.now in
    let part = part_of c.args.world in
    let later = c.take_turn.new.locations in
    let turned : OnceGrown later w (λ env. ComesToRest env part (core_in c.rounds.run) (core_in c.in_ok-next.next) false) =
    subst (λ (v : Workspace). OnceGrown later v (λ env. ComesToRest env part (core_in c.rounds.run) (core_in c.in_ok-next.next) false)) c.rounds.invariant.same
    (subst (λ (t : Turn). OnceGrown later (g.D.SourceDatabase.workspace c.rounds.db)
    (λ env. TakesTurn env part (core_in c.rounds.run) (core_in c.in_ok-next.next) c.rounds.first t)) c.in-Rests.is c.in_ok-next.ensures.turned) in
    rests_from (environment grown w) part (core_in c.args.run) (core_in c.rounds.run) (core_in c.in_ok-next.next) (turned grown k)

-- ---- there were too many rounds

pub returns-in_err-run-clause-many : goal.returns-in_err-run-clause-many
returns-in_err-run-clause-many g c = λ h grown k.
    spent_after (has_rounds_steps (environment grown (g.D.SourceDatabase.workspace c.args.db.now)) (part_of c.args.world) (core_in c.args.run)
    (at_rest (core_in c.rounds.run)) c.rounds.rounds (c.rounds.invariant.rounds grown k))
    (c.in_err-run.ensures.many (sym c.in_err-run.was ∙ refused_step _ _ _ c.in_err-run.was c.from_residual-in_err-run.ensures.1 h)
    (environment grown (g.D.SourceDatabase.workspace c.args.db.now)))

pub returns-in_err-run-clause-unknown : goal.returns-in_err-run-clause-unknown
returns-in_err-run-clause-unknown g c = λ h. absurd (known_step _ _ c.from_residual-in_err-run.ensures.1 h)

pub returns-clause-ok : goal.returns-clause-ok
returns-clause-ok g c = λ grown k.
    Steps-append (has_rounds_steps (environment grown (g.D.SourceDatabase.workspace c.args.db.now)) (part_of c.args.world) (core_in c.args.run)
    (at_rest (core_in c.rounds.run)) c.rounds.rounds (c.rounds.invariant.rounds grown k))
    (c.in_ok-run.ensures.ok (environment grown (g.D.SourceDatabase.workspace c.args.db.now)))

pub returns-clause-rests : goal.returns-clause-rests
returns-clause-rests g c = λ grown k.
    cut_off c.in_ok-run.ensures.closed c.in_ok-run.ensures.sound.stands
    (let before = c.rounds.invariant.rounds grown k in record {
      count = c.rounds.rounds;
      last = before.last;
      rounds = before.rounds;
      many = omega (arith, c.rounds-test.false);
      after = Steps-append before.after (c.in_ok-run.ensures.ok (environment grown (g.D.SourceDatabase.workspace c.args.db.now)));
    })
