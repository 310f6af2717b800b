-- Each call that is queued is tried, one after another.
use Rattle.std.proofs.Common.{rules, ◌≡◌, ◌∙◌, ℕ, ◌<◌, ◌≤◌, ap, refl, subst, sym, arith, true, false}
use Rattle.std.proofs.lemmas.Bool.Decides.{nat_tests}
use Rattle.hir_mod_collector.proofs.HirTables.Growth.{KeepsTables-trans}
use Rattle.hir_mod_collector.specs.HirNameres.WorldParts.{part_of}
use Rattle.hir_worklist.specs.Moves.{Takes, opened}
use Rattle.hir_worklist.specs.Queue.{Queue, count_of, is_ahead}
use Rattle.hir_call_queue.specs.Waking.{is_apart, worklist_of}
use Rattle.hir_mod_collector.specs.HirCollectorRules.Derivation.{IsSpent}
use Rattle.hir_mod_collector.specs.HirCollectorRules.Keys.{environment}
use Rattle.hir_mod_collector.specs.HirCollectorRules.Moves.{OnceGrown}
use Rattle.hir_mod_collector.specs.HirCollectorRules.State.{at_rest, core_in}
use Rattle.hir_mod_collector.specs.HirCollectorRules.Steps.{Steps, none}
use Rattle.hir_mod_collector.specs.HirCollectorRules.UnknownSources.{LeadsToUnknownSource}
use Rattle.hir_mod_collector.specs.HirCollectorRules.Workspace.{Workspace}
use Rattle.hir_mod_collector.proofs.HirCollectorRules.Changes.{id-Steps}
use Rattle.hir_mod_collector.proofs.HirCollectorRules.Moves.{Steps-append, spent_after, unknown_after}
use Rattle.hir_mod_collector.proofs.HirCollectorRules.Numbers.{tables_stay}
use Rattle.hir_macro_calls.proofs.Queued.{AreTried, left_or_tried, tried_all, tried_first, tried_next}
use Rattle.hir_mod_collector.proofs.HirCollectorImports.Ready.{ready_after, ready_grown}
use Rattle.hir_mod_collector.proofs.HirCollectorRules.Tried.{settled_bounded, settled_more}
use Rattle.hir_macro_calls.proofs.UpToDate.{apart_later, up_to_date_closed, up_to_date_opened, up_to_date_taken}
use Rattle.hir_macro_rounds.proofs.calls.try_calls.Goals as goal

-- what is taken of a pass lies before its end
taken_below : (q r : Queue) (i : ℕ) → Takes q r i → i < q.end
taken_below q r i takes = let ahead : is_ahead q i ≡ true = takes.ahead in grind (arith, nat_tests)

pub tries-init : goal.tries-init
tries-init g c =
    let opens : worklist_of c.open.new.self ≡ opened (worklist_of c.args.queue.now) = ap worklist_of c.open.ensures.value in
    record {
      kept = tables_stay c.args.locations.now;
      same = refl;
      placed = λ placed. placed;
      steps = λ grown k. none;
      ready = c.requires.ready;
      more = omega arith;
      bounded = omega (arith, c.requires.settled);
      apart = refl;
      up_to_date =
          up_to_date_opened (part_of c.args.world) c.args.queue.now c.open.new.self (core_in c.args.run.now) c.requires.up_to_date c.requires.between.over
          c.open.ensures.value;
      gathered = λ imports behind. behind;
      end =
          let all : (worklist_of c.open.new.self).end ≡ count_of (worklist_of c.args.queue.now) = ap (λ (q : Queue). q.end) opens
          in omega (arith, all, c.requires.all, c.requires.settled);
      tried = λ grown k.
          subst (λ (q : Queue). AreTried (environment grown (g.D.SourceDatabase.workspace c.args.db.now)) (part_of c.args.world) (core_in c.args.run.now)
          (core_in c.args.run.now) q.current false) (sym opens)
          (tried_first (environment grown (g.D.SourceDatabase.workspace c.args.db.now)) (part_of c.args.world) (core_in c.args.run.now) c.args.queue.now
          c.requires.up_to_date c.requires.between.over c.requires.all);
    }

pub try_queued-requires-clause-settled : goal.try_queued-requires-clause-settled
try_queued-requires-clause-settled g c =
    let below : c.in-Some.i < (worklist_of c.tries.queue).end = taken_below (worklist_of c.tries.queue) (worklist_of c.take.new.self) c.in-Some.i
    c.in-Some.ensures.some in
    omega (arith, below, c.tries.invariant.end, c.tries.invariant.more)

pub try_queued-requires-clause-apart : goal.try_queued-requires-clause-apart
try_queued-requires-clause-apart g c =
    apart_later (part_of c.args.world) c.args.queue.now c.take.new.self (core_in c.args.run.now) (core_in c.tries.run)
    (ap is_apart c.in-Some.ensures.rest ∙ c.tries.invariant.apart ∙ ap is_apart c.open.ensures.value)
    (c.tries.invariant.steps c.tries.locations (tables_stay c.tries.locations)) c.requires.apart

pub try_queued-requires-clause-up_to_date : goal.try_queued-requires-clause-up_to_date
try_queued-requires-clause-up_to_date g c =
    up_to_date_taken (part_of c.args.world) c.tries.queue c.take.new.self (core_in c.tries.run) c.tries.invariant.up_to_date c.in-Some.i c.in-Some.ensures.some
    c.in-Some.ensures.rest

pub tries-preserved : goal.tries-preserved
tries-preserved g c =
    let w = g.D.SourceDatabase.workspace c.args.db.now in
    let part = part_of c.args.world in
    let old = core_in c.args.run.now in
    let now = core_in c.tries.run in
    let new = core_in c.try_queued.new.run in
    let later = c.try_queued.new.locations in
    let step : OnceGrown later w (λ env. Steps env part (at_rest now) (at_rest new)) =
    subst (λ (v : Workspace). OnceGrown later v (λ env. Steps env part (at_rest now) (at_rest new))) c.tries.invariant.same c.in_ok-done.ensures.ok in
    let here : Steps (environment later w) part (at_rest now) (at_rest new) = step later (tables_stay later) in
    let kept = c.in_ok-done.ensures.kept in
    let on = c.in_ok-done.ensures.stays in
    let takes : Takes (worklist_of c.tries.queue) (worklist_of c.take.new.self) c.in-Some.i = c.in-Some.ensures.some in
    let below : c.in-Some.i < (worklist_of c.tries.queue).end = taken_below (worklist_of c.tries.queue) (worklist_of c.take.new.self) c.in-Some.i takes in
    record {
      kept = KeepsTables-trans c.args.locations.now c.tries.locations later c.tries.invariant.kept kept;
      same = c.in_ok-done.ensures.same ∙ c.tries.invariant.same;
      placed = λ placed. c.in_ok-done.ensures.placed (c.tries.invariant.placed placed);
      steps = λ grown k. Steps-append (c.tries.invariant.steps grown (KeepsTables-trans c.tries.locations later grown kept k)) (step grown k);
      ready = ready_after here (ready_grown kept c.tries.invariant.ready);
      more = let longer : now.settled ≤ new.settled = settled_more here c.tries.invariant.bounded in omega (arith, longer, c.tries.invariant.more);
      bounded = settled_bounded here c.tries.invariant.bounded;
      apart = on.apart ∙ ap is_apart c.in-Some.ensures.rest ∙ c.tries.invariant.apart;
      up_to_date = c.in_ok-done.ensures.up_to_date;
      gathered = λ imports behind. c.in_ok-done.ensures.gathered imports (c.tries.invariant.gathered imports behind);
      end =
          let same : (worklist_of c.try_queued.new.queue).end ≡ (worklist_of c.tries.queue).end = on.pass.end ∙ takes.end
          in omega (arith, same, c.tries.invariant.end);
      tried = λ grown k.
          subst (AreTried (environment grown w) part old new (worklist_of c.try_queued.new.queue).current) (sym c.either-progress.ensures.value)
          (tried_next (environment grown w) part old now new c.in-Some.i (omega (arith, below, c.tries.invariant.end, c.requires.settled))
          c.requires.ready.fated
          (worklist_of c.tries.queue).current (worklist_of c.try_queued.new.queue).current
          (λ j out. left_or_tried (worklist_of c.tries.queue) (worklist_of c.take.new.self) (worklist_of c.try_queued.new.queue) c.in-Some.i takes on.queued j
          out)
          (c.tries.invariant.steps grown (KeepsTables-trans c.tries.locations later grown kept k)) (step grown k) c.in_ok-done.done c.tries.progress
          (c.tries.invariant.tried grown (KeepsTables-trans c.tries.locations later grown kept k)) c.in_ok-done.ensures.tried);
    }

pub tries-smaller : goal.tries-smaller
tries-smaller g c =
    let takes : Takes (worklist_of c.tries.queue) (worklist_of c.take.new.self) c.in-Some.i = c.in-Some.ensures.some in
    let below : c.in-Some.i < (worklist_of c.tries.queue).end = taken_below (worklist_of c.tries.queue) (worklist_of c.take.new.self) c.in-Some.i takes in
    let ahead : is_ahead (worklist_of c.tries.queue) c.in-Some.i ≡ true = takes.ahead in
    let on = c.in_ok-done.ensures.stays in
    grind (arith, nat_tests, on.pass.end, on.pass.next, takes.next, takes.end)

pub returns-in_err-done-clause-kept : goal.returns-in_err-done-clause-kept
returns-in_err-done-clause-kept g c =
    KeepsTables-trans c.args.locations.now c.tries.locations c.try_queued.new.locations c.tries.invariant.kept c.in_err-done.ensures.kept

pub returns-in_err-done-clause-many : goal.returns-in_err-done-clause-many
returns-in_err-done-clause-many g c = λ h grown k.
    let w = g.D.SourceDatabase.workspace c.args.db.now in
    let part = part_of c.args.world in
    let later = c.try_queued.new.locations in
    let far : OnceGrown later w (λ env. IsSpent env part (at_rest (core_in c.tries.run))) =
    subst (λ (v : Workspace). OnceGrown later v (λ env. IsSpent env part (at_rest (core_in c.tries.run)))) c.tries.invariant.same
    (c.in_err-done.ensures.many (search rules)) in
    spent_after (c.tries.invariant.steps grown (KeepsTables-trans c.tries.locations later grown c.in_err-done.ensures.kept k)) (far grown k)

pub returns-in_err-done-clause-unknown : goal.returns-in_err-done-clause-unknown
returns-in_err-done-clause-unknown g c = λ h.
    let later = c.try_queued.new.locations in
    unknown_after (c.tries.invariant.steps later c.in_err-done.ensures.kept)
    (subst (λ (v : Workspace). LeadsToUnknownSource (environment later v) (part_of c.args.world) (at_rest (core_in c.tries.run))) c.tries.invariant.same
    (c.in_err-done.ensures.unknown (search rules)))

pub returns-clause-tried : goal.returns-clause-tried
returns-clause-tried g c = λ grown k.
    tried_all (environment grown (g.D.SourceDatabase.workspace c.args.db.now)) (part_of c.args.world) (core_in c.args.run.now) (core_in c.tries.run)
    (worklist_of c.tries.queue).current c.tries.progress
    c.in_default.ensures.over (c.tries.invariant.steps grown k) (c.tries.invariant.tried grown k)

pub returns-clause-up_to_date : goal.returns-clause-up_to_date
returns-clause-up_to_date g c =
    up_to_date_closed (part_of c.args.world) c.tries.queue c.take.new.self (core_in c.tries.run) c.tries.invariant.up_to_date c.in_default.ensures.none
    c.in_default.ensures.rest

pub returns-clause-between : goal.returns-clause-between
returns-clause-between g c = record {
  over = ap (λ (q : Queue). q.current) c.in_default.ensures.none ∙ c.in_default.ensures.over;
  outside = ap (λ (q : Queue). q.end) c.in_default.ensures.none;
}

pub returns-clause-queue : goal.returns-clause-queue
returns-clause-queue g c = ap is_apart c.in_default.ensures.rest ∙ c.tries.invariant.apart ∙ ap is_apart c.open.ensures.value

pub returns-clause-gathered : goal.returns-clause-gathered
returns-clause-gathered g c = c.tries.invariant.gathered
