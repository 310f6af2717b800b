-- What waits is tried; where nothing was handled the first attribute that waits is given up.
use Rattle.std.proofs.lemmas.Result.{err_from_is_err_and}
use Rattle.std.proofs.Common.{Err, ◌≡◌, ◌∙◌, ◌<◌, None, Some, ap, false, length, subst, sym, true, arith}
use Rattle.hir_mod_collector.proofs.HirTables.Growth.{KeepsTables-trans}
use Rattle.hir_mod_collector.specs.HirNameres.WorldParts.{part_of}
use Rattle.hir_mod_collector.specs.HirImportRules.Rest.{IsAtRest}
use Rattle.hir_mod_collector.specs.HirCollectorRules.CallMoves.{IsGivenUp, IsReady}
use Rattle.hir_mod_collector.specs.HirCollectorRules.Derivation.{IsSpent}
use Rattle.hir_mod_collector.specs.HirCollectorRules.Keys.{environment}
use Rattle.hir_mod_collector.specs.HirCollectorRules.Moves.{OnceGrown}
use Rattle.hir_mod_collector.specs.HirCollectorRules.State.{Core, at_rest, core_in, import_state}
use Rattle.hir_mod_collector.specs.HirCollectorRules.Steps.{Steps}
use Rattle.hir_mod_collector.specs.HirCollectorImports.Waiting.{KeepsApart}
use Rattle.hir_mod_collector.specs.HirCollectorRules.Workspace.{Workspace}
use Rattle.hir_mod_collector.proofs.HirCollectorRules.Changes.{count-Steps, counts_on}
use Rattle.hir_macro_calls.proofs.GivingUp.{none_waits_later}
use Rattle.hir_macro_calls.proofs.Meeting.{rests_still}
use Rattle.hir_mod_collector.proofs.HirCollectorRules.Moves.{Steps-append, spent_after, unknown_after}
use Rattle.hir_mod_collector.proofs.HirCollectorRules.Numbers.{known_step, refused_step, tables_stay}
use Rattle.hir_macro_calls.proofs.Queued.{none_handled, of_round, requeued_steps, rests_idle, rises_on}
use Rattle.hir_mod_collector.proofs.HirCollectorImports.Ready.{ready_after, ready_grown}
use Rattle.hir_macro_calls.proofs.Resuming.{behind_later, behind_tried, one_error}
use Rattle.hir_macro_calls.proofs.UpToDate.{keeps_waiting, stale_later, stale_now}
use Rattle.hir_mod_collector.specs.HirCollectorRules.declared.start.CollectError.TheVariants.{TooMany, UnknownSource}
use Rattle.hir_macro_rounds.proofs.calls.take_waiting.Goals as goal

-- what each goal below needs: `settled` is where imports rest and the queue is up to date, `tried` where what is queued was tried
pub try_calls-requires-clause-ready : goal.try_calls-requires-clause-ready
try_calls-requires-clause-ready g c =
    subst (IsReady c.args.locations.now (part_of c.args.world)) (sym c.requeue.ensures.same) c.requires.ready

pub try_calls-requires-clause-settled : goal.try_calls-requires-clause-settled
try_calls-requires-clause-settled g c = subst (λ (core : Core). core.settled ≡ length core.calls) (sym c.requeue.ensures.same) c.requires.settled

pub try_calls-requires-clause-apart : goal.try_calls-requires-clause-apart
try_calls-requires-clause-apart g c = λ yes.
    subst (KeepsApart (part_of c.args.world)) (sym c.requeue.ensures.same) (c.requires.apart (sym c.in_ok-requeue.ensures.queue ∙ yes))

pub returns-in_err-try_calls-clause-many : goal.returns-in_err-try_calls-clause-many
returns-in_err-try_calls-clause-many g c = λ h grown k.
    let p = err_from_is_err_and c.from_residual-in_err-try_calls.result c.from_residual-in_err-try_calls.ensures.1 in
    let many : p.0 ≡ TooMany = one_error _ p.0 TooMany p.1 h in
    let same : c.in_err-try_calls.field-0.0 ≡ TooMany = sym p.2 ∙ many in
    let env = environment grown (g.D.SourceDatabase.workspace c.args.db.now) in
    let part = part_of c.args.world in
    spent_after (requeued_steps env part (core_in c.args.run.now) (core_in c.requeue.new.run) c.requeue.ensures.same)
    (c.in_err-try_calls.ensures.many (λ i. Err (same i)) grown k)

pub returns-in_err-try_calls-clause-unknown : goal.returns-in_err-try_calls-clause-unknown
returns-in_err-try_calls-clause-unknown g c = λ h.
    let p = err_from_is_err_and c.from_residual-in_err-try_calls.result c.from_residual-in_err-try_calls.ensures.1 in
    let unknown : p.0 ≡ UnknownSource = one_error _ p.0 UnknownSource p.1 h in
    let same : c.in_err-try_calls.field-0.0 ≡ UnknownSource = sym p.2 ∙ unknown in
    let env = environment c.try_calls.new.locations (g.D.SourceDatabase.workspace c.args.db.now) in
    unknown_after (requeued_steps env (part_of c.args.world) (core_in c.args.run.now) (core_in c.requeue.new.run) c.requeue.ensures.same)
    (c.in_err-try_calls.ensures.unknown (λ i. Err (same i)))

pub returns-then-branch-clause-ok : goal.returns-then-branch-clause-ok
returns-then-branch-clause-ok g c = λ grown k.
    let env = environment grown (g.D.SourceDatabase.workspace c.args.db.now) in
    Steps-append (requeued_steps env (part_of c.args.world) (core_in c.args.run.now) (core_in c.requeue.new.run) c.requeue.ensures.same)
    (c.in_ok-try_calls.ensures.ok grown k)

pub returns-then-branch-clause-queue : goal.returns-then-branch-clause-queue
returns-then-branch-clause-queue g c = c.in_ok-try_calls.ensures.queue ∙ c.in_ok-requeue.ensures.queue

pub returns-then-branch-clause-stale : goal.returns-then-branch-clause-stale
returns-then-branch-clause-stale g c = stale_now (part_of c.args.world) c.try_calls.new.queue c.try_calls.new.run c.in_ok-try_calls.ensures.up_to_date

pub returns-then-branch-clause-behind : goal.returns-then-branch-clause-behind
returns-then-branch-clause-behind g c = λ imports behind.
    behind_tried (part_of c.args.world) imports c.args.grown.now c.try_calls.new.grown (core_in c.args.run.now) c.requeue.new.run c.try_calls.new.run
    c.requeue.ensures.same behind c.in_ok-try_calls.ensures.gathered

-- what was handled doesn't wait any more, so steps were taken
pub returns-then-branch-clause-counts : goal.returns-then-branch-clause-counts
returns-then-branch-clause-counts g c =
    let later = c.try_calls.new.locations in
    let env = environment later (g.D.SourceDatabase.workspace c.args.db.now) in
    let settled = core_in c.requeue.new.run in
    let new = core_in c.try_calls.new.run in
    let same : settled.count ≡ (core_in c.args.run.now).count = ap (λ (core : Core). core.count) c.requeue.ensures.same in
    let round = of_round env (part_of c.args.world) (core_in c.args.run.now) settled new c.in_ok-try_calls.field-0 c.if-branch.true
    (c.in_ok-try_calls.ensures.tried later (tables_stay later)) in
    let on : settled.count < new.count = counts_on (c.in_ok-try_calls.ensures.ok later (tables_stay later))
    (rises_on (at_rest settled) (at_rest new) round.rises) in
    omega (arith, same, on)

pub returns-then-branch-clause-turned : goal.returns-then-branch-clause-turned
returns-then-branch-clause-turned g c = λ grown k.
    let env = environment grown (g.D.SourceDatabase.workspace c.args.db.now) in
    let part = part_of c.args.world in
    let now = core_in c.args.run.now in
    let settled = core_in c.requeue.new.run in
    let new = core_in c.try_calls.new.run in
    let before : Steps env part (at_rest now) (at_rest settled) = requeued_steps env part now settled c.requeue.ensures.same in
    record {
      begun = settled;
      before = before;
      round = of_round env part now settled new c.in_ok-try_calls.field-0 c.if-branch.true (c.in_ok-try_calls.ensures.tried grown k);
      none = none_waits_later now new c.args.first c.requires.ready.fated (Steps-append before (c.in_ok-try_calls.ensures.ok grown k)) c.requires.first;
    }

-- ---- nothing was: all is as it was where imports rest, but that calls met eager macros, and nothing that waits leads anywhere
pub give_up-requires-clause-ready : goal.give_up-requires-clause-ready
give_up-requires-clause-ready g c =
    let later = c.try_calls.new.locations in
    let env = environment later (g.D.SourceDatabase.workspace c.args.db.now) in
    let part = part_of c.args.world in
    ready_after (Steps-append (requeued_steps env part (core_in c.args.run.now) (core_in c.requeue.new.run) c.requeue.ensures.same)
    (c.in_ok-try_calls.ensures.ok later (tables_stay later)))
    (ready_grown c.in_ok-try_calls.ensures.kept c.requires.ready)

pub give_up-requires-clause-rests : goal.give_up-requires-clause-rests
give_up-requires-clause-rests g c =
    let later = c.try_calls.new.locations in
    let env = environment later (g.D.SourceDatabase.workspace c.args.db.now) in
    let part = part_of c.args.world in
    let idle = none_handled env part (core_in c.args.run.now) (core_in c.requeue.new.run) (core_in c.try_calls.new.run) c.in_ok-try_calls.field-0
    c.if-branch.false
    (c.in_ok-try_calls.ensures.tried later (tables_stay later)) in
    rests_still part (core_in c.requeue.new.run) (core_in c.try_calls.new.run) idle.0
    (subst (λ (core : Core). IsAtRest part (import_state (at_rest core))) (sym c.requeue.ensures.same) c.requires.rests)

pub give_up-requires-clause-nowhere : goal.give_up-requires-clause-nowhere
give_up-requires-clause-nowhere g c = λ j.
    let later = c.try_calls.new.locations in
    let env = environment later (g.D.SourceDatabase.workspace c.args.db.now) in
    let part = part_of c.args.world in
    let idle = none_handled env part (core_in c.args.run.now) (core_in c.requeue.new.run) (core_in c.try_calls.new.run) c.in_ok-try_calls.field-0
    c.if-branch.false
    (c.in_ok-try_calls.ensures.tried later (tables_stay later)) in
    idle.1 j

pub give_up-requires-clause-first : goal.give_up-requires-clause-first
give_up-requires-clause-first g c =
    let later = c.try_calls.new.locations in
    let env = environment later (g.D.SourceDatabase.workspace c.args.db.now) in
    let part = part_of c.args.world in
    none_waits_later (core_in c.args.run.now) (core_in c.try_calls.new.run) c.args.first c.requires.ready.fated
    (Steps-append (requeued_steps env part (core_in c.args.run.now) (core_in c.requeue.new.run) c.requeue.ensures.same)
    (c.in_ok-try_calls.ensures.ok later (tables_stay later)))
    c.requires.first

-- ---- an attribute was given up, or none waits

-- steps up to where what is queued was tried
pub returns-in_err-given-clause-kept : goal.returns-in_err-given-clause-kept
returns-in_err-given-clause-kept g c =
    KeepsTables-trans c.args.locations.now c.try_calls.new.locations c.give_up.new.locations c.in_ok-try_calls.ensures.kept c.in_err-given.ensures.kept

pub returns-in_err-given-clause-many : goal.returns-in_err-given-clause-many
returns-in_err-given-clause-many g c = λ h grown k.
    let w = g.D.SourceDatabase.workspace c.args.db.now in
    let env = environment grown w in
    let part = part_of c.args.world in
    let later = c.give_up.new.locations in
    let far : OnceGrown later w (λ env. IsSpent env part (at_rest (core_in c.try_calls.new.run))) =
    subst (λ (v : Workspace). OnceGrown later v (λ env. IsSpent env part (at_rest (core_in c.try_calls.new.run)))) c.in_ok-try_calls.ensures.same
    (c.in_err-given.ensures.many (sym c.in_err-given.was ∙ refused_step _ _ _ c.in_err-given.was c.from_residual-in_err-given.ensures.1 h)) in
    spent_after (Steps-append (requeued_steps env (part_of c.args.world) (core_in c.args.run.now) (core_in c.requeue.new.run) c.requeue.ensures.same)
    (c.in_ok-try_calls.ensures.ok grown (KeepsTables-trans c.try_calls.new.locations later grown c.in_err-given.ensures.kept k))) (far grown k)

pub returns-in_err-given-clause-unknown : goal.returns-in_err-given-clause-unknown
returns-in_err-given-clause-unknown g c = λ h. absurd (known_step _ _ c.from_residual-in_err-given.ensures.1 h)

pub returns-in-Some-clause-kept : goal.returns-in-Some-clause-kept
returns-in-Some-clause-kept g c =
    KeepsTables-trans c.args.locations.now c.try_calls.new.locations c.give_up.new.locations c.in_ok-try_calls.ensures.kept c.in_ok-given.ensures.kept

pub returns-in-Some-clause-ok : goal.returns-in-Some-clause-ok
returns-in-Some-clause-ok g c = λ grown k.
    let w = g.D.SourceDatabase.workspace c.args.db.now in
    let env = environment grown w in
    let part = part_of c.args.world in
    let later = c.give_up.new.locations in
    let last : OnceGrown later w (λ env. Steps env part (at_rest (core_in c.try_calls.new.run)) (at_rest (core_in c.give_up.new.run))) =
    subst (λ (v : Workspace). OnceGrown later v (λ env. Steps env part (at_rest (core_in c.try_calls.new.run)) (at_rest (core_in c.give_up.new.run))))
    c.in_ok-try_calls.ensures.same c.in_ok-given.ensures.ok in
    Steps-append (Steps-append (requeued_steps env (part_of c.args.world) (core_in c.args.run.now) (core_in c.requeue.new.run) c.requeue.ensures.same)
    (c.in_ok-try_calls.ensures.ok grown (KeepsTables-trans c.try_calls.new.locations later grown c.in_ok-given.ensures.kept k))) (last grown k)

pub returns-in-Some-clause-queue : goal.returns-in-Some-clause-queue
returns-in-Some-clause-queue g c = c.in_ok-try_calls.ensures.queue ∙ c.in_ok-requeue.ensures.queue

-- what `give_up` notes is looked at in the next turn
pub returns-in-Some-clause-stale : goal.returns-in-Some-clause-stale
returns-in-Some-clause-stale g c =
    let later = c.give_up.new.locations in
    let part = part_of c.args.world in
    let tried = core_in c.try_calls.new.run in
    let fated = (ready_after (Steps-append (requeued_steps (environment c.try_calls.new.locations (g.D.SourceDatabase.workspace c.args.db.now))
    (part_of c.args.world) (core_in c.args.run.now) (core_in c.requeue.new.run) c.requeue.ensures.same)
    (c.in_ok-try_calls.ensures.ok c.try_calls.new.locations (tables_stay c.try_calls.new.locations)))
    (ready_grown c.in_ok-try_calls.ensures.kept c.requires.ready)).fated in
    stale_later part c.try_calls.new.queue c.try_calls.new.run c.give_up.new.run
    (stale_now part c.try_calls.new.queue c.try_calls.new.run c.in_ok-try_calls.ensures.up_to_date) c.in_ok-given.ensures.noted.slots
    (keeps_waiting tried (core_in c.give_up.new.run) (c.in_ok-given.ensures.ok later (tables_stay later)) fated)

pub returns-in-Some-clause-behind : goal.returns-in-Some-clause-behind
returns-in-Some-clause-behind g c = λ imports behind.
    let part = part_of c.args.world in
    behind_later part imports c.try_calls.new.grown c.try_calls.new.run c.give_up.new.run c.in_ok-given.ensures.noted
    (behind_tried part imports c.args.grown.now c.try_calls.new.grown (core_in c.args.run.now) c.requeue.new.run c.try_calls.new.run
    c.requeue.ensures.same behind c.in_ok-try_calls.ensures.gathered)

pub returns-in-Some-clause-counts : goal.returns-in-Some-clause-counts
returns-in-Some-clause-counts g c =
    let middle = c.try_calls.new.locations in
    let same = ap (λ (core : Core). core.count) c.requeue.ensures.same in
    let more = count-Steps (c.in_ok-try_calls.ensures.ok middle (tables_stay middle)) in
    let given : IsGivenUp (core_in c.try_calls.new.run) (core_in c.give_up.new.run) (Some c.in-Some.next) = subst
    (IsGivenUp (core_in c.try_calls.new.run) (core_in c.give_up.new.run)) c.in-Some.is c.in_ok-given.ensures.given in
    omega (arith, same, more, given.0)

pub returns-in-None-clause-kept : goal.returns-in-None-clause-kept
returns-in-None-clause-kept g c =
    KeepsTables-trans c.args.locations.now c.try_calls.new.locations c.give_up.new.locations c.in_ok-try_calls.ensures.kept c.in_ok-given.ensures.kept

pub returns-in-None-clause-ok : goal.returns-in-None-clause-ok
returns-in-None-clause-ok g c = λ grown k.
    let w = g.D.SourceDatabase.workspace c.args.db.now in
    let env = environment grown w in
    let part = part_of c.args.world in
    let later = c.give_up.new.locations in
    let last : OnceGrown later w (λ env. Steps env part (at_rest (core_in c.try_calls.new.run)) (at_rest (core_in c.give_up.new.run))) =
    subst (λ (v : Workspace). OnceGrown later v (λ env. Steps env part (at_rest (core_in c.try_calls.new.run)) (at_rest (core_in c.give_up.new.run))))
    c.in_ok-try_calls.ensures.same c.in_ok-given.ensures.ok in
    Steps-append (Steps-append (requeued_steps env (part_of c.args.world) (core_in c.args.run.now) (core_in c.requeue.new.run) c.requeue.ensures.same)
    (c.in_ok-try_calls.ensures.ok grown (KeepsTables-trans c.try_calls.new.locations later grown c.in_ok-given.ensures.kept k))) (last grown k)

pub returns-in-None-clause-queue : goal.returns-in-None-clause-queue
returns-in-None-clause-queue g c = c.in_ok-try_calls.ensures.queue ∙ c.in_ok-requeue.ensures.queue

-- what `give_up` notes is looked at in the next turn
pub returns-in-None-clause-stale : goal.returns-in-None-clause-stale
returns-in-None-clause-stale g c =
    let later = c.give_up.new.locations in
    let part = part_of c.args.world in
    let tried = core_in c.try_calls.new.run in
    let fated = (ready_after (Steps-append (requeued_steps (environment c.try_calls.new.locations (g.D.SourceDatabase.workspace c.args.db.now))
    (part_of c.args.world) (core_in c.args.run.now) (core_in c.requeue.new.run) c.requeue.ensures.same)
    (c.in_ok-try_calls.ensures.ok c.try_calls.new.locations (tables_stay c.try_calls.new.locations)))
    (ready_grown c.in_ok-try_calls.ensures.kept c.requires.ready)).fated in
    stale_later part c.try_calls.new.queue c.try_calls.new.run c.give_up.new.run
    (stale_now part c.try_calls.new.queue c.try_calls.new.run c.in_ok-try_calls.ensures.up_to_date) c.in_ok-given.ensures.noted.slots
    (keeps_waiting tried (core_in c.give_up.new.run) (c.in_ok-given.ensures.ok later (tables_stay later)) fated)

pub returns-in-None-clause-behind : goal.returns-in-None-clause-behind
returns-in-None-clause-behind g c = λ imports behind.
    let part = part_of c.args.world in
    behind_later part imports c.try_calls.new.grown c.try_calls.new.run c.give_up.new.run c.in_ok-given.ensures.noted
    (behind_tried part imports c.args.grown.now c.try_calls.new.grown (core_in c.args.run.now) c.requeue.new.run c.try_calls.new.run
    c.requeue.ensures.same behind c.in_ok-try_calls.ensures.gathered)

pub returns-in-None-clause-counts : goal.returns-in-None-clause-counts
returns-in-None-clause-counts g c = tt

pub returns-in-Some-clause-turned : goal.returns-in-Some-clause-turned
returns-in-Some-clause-turned g c = λ grown k.
    let given : IsGivenUp (core_in c.try_calls.new.run) (core_in c.give_up.new.run) (Some c.in-Some.next) = subst
    (IsGivenUp (core_in c.try_calls.new.run) (core_in c.give_up.new.run)) c.in-Some.is c.in_ok-given.ensures.given in
    given.1

pub returns-in-None-clause-turned : goal.returns-in-None-clause-turned
returns-in-None-clause-turned g c = λ grown k.
    let middle = c.try_calls.new.locations in
    let env = environment middle (g.D.SourceDatabase.workspace c.args.db.now) in
    let part = part_of c.args.world in
    let settled = core_in c.requeue.new.run in
    let none : IsGivenUp (core_in c.try_calls.new.run) (core_in c.give_up.new.run) None = subst
    (IsGivenUp (core_in c.try_calls.new.run) (core_in c.give_up.new.run)) c.in-None.is c.in_ok-given.ensures.given in
    let idle = none_handled env part (core_in c.args.run.now) settled (core_in c.try_calls.new.run) c.in_ok-try_calls.field-0 c.if-branch.false
    (c.in_ok-try_calls.ensures.tried middle (tables_stay middle)) in
    rests_idle (environment grown (g.D.SourceDatabase.workspace c.args.db.now)) part (core_in c.args.run.now) settled (core_in c.try_calls.new.run)
    (core_in c.give_up.new.run)
    (subst (λ (core : Core). IsAtRest part (import_state (at_rest core))) (sym c.requeue.ensures.same) c.requires.rests) idle.0 idle.1 none.0 none.1
