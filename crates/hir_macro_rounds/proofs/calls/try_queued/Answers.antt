-- A call is tried, and then what has read what has changed is queued, or it watches what it has read.
use Rattle.std.proofs.Common.{◌≡◌, ◌∙◌, ◌<◌, ap, refl, subst, sym, true, None, Some, length, slice_get}
use Rattle.hir_mod_collector.specs.HirDefMapRules.State.{IsInOrder}
use Rattle.hir_mod_collector.specs.HirNameres.WorldParts.{part_of}
use Rattle.hir_mod_collector.specs.HirImportRules.Changed.{joined}
use Rattle.hir_mod_collector.specs.HirCollectorRules.CallMoves.{OnlyMeets, TriesCall}
use Rattle.hir_mod_collector.specs.HirCollectorRules.Keys.{environment}
use Rattle.hir_mod_collector.specs.HirCollectorRules.State.{Core, at_rest, core_in}
use Rattle.hir_mod_collector.specs.HirCollectorRules.Steps.{Steps}
use Rattle.hir_mod_collector.specs.HirCollectorImports.Waiting.{IsUpToDate}
use Rattle.hir_mod_collector.specs.HirCollectorRules.declared.macro_directive.MacroDirective.{MacroDirective}
use Rattle.hir_mod_collector.proofs.HirCollectorRules.Numbers.{tables_stay}
use Rattle.hir_macro_calls.proofs.MetUpToDate.{up_to_date_met}
use Rattle.hir_macro_calls.proofs.Queued.{was_handled, was_left}
use Rattle.hir_macro_calls.proofs.Resuming.{behind_gathered, behind_later}
use Rattle.hir_macro_calls.proofs.UpToDate.{apart_later, keeps_waiting, up_to_date_handled, waits_no_more}
use Rattle.hir_macro_rounds.proofs.calls.try_queued.Goals as goal

-- ---- where it was handled

pub returns-clause-up_to_date : goal.returns-clause-up_to_date
returns-clause-up_to_date g c =
    let w = g.D.SourceDatabase.workspace c.args.db.now in
    let part = part_of c.args.world in
    let old = core_in c.args.run.now in
    let new = core_in c.try_call.new.run in
    let steps : Steps (environment c.try_call.new.locations w) part (at_rest old) (at_rest new) = c.in_ok-done.ensures.ok c.try_call.new.locations
    (tables_stay c.try_call.new.locations) in
    subst (λ (core : Core). IsUpToDate part c.wake.new.queue core None) (sym c.wake.ensures.same)
    (up_to_date_handled part c.args.queue.now c.wake.new.queue c.args.run.now c.try_call.new.run c.in_ok-done.ensures.noted.slots
    (keeps_waiting old new steps c.requires.ready.fated) c.in_ok-wake.ensures.woken
    (apart_later part c.args.queue.now c.wake.new.queue old new c.in_ok-wake.ensures.woken.on.apart steps c.requires.apart)
    c.args.i c.requires.up_to_date
    (waits_no_more new c.args.i (was_handled part old new c.args.i _ c.in_ok-done.ensures.tried c.if-not-done.false)))

-- ---- where it was left: what other calls wait for stays, and what they have met

pub watch-requires-clause-apart : goal.watch-requires-clause-apart
watch-requires-clause-apart g c =
    let w = g.D.SourceDatabase.workspace c.args.db.now in
    let steps : Steps (environment c.try_call.new.locations w) (part_of c.args.world) (at_rest (core_in c.args.run.now)) (at_rest (core_in c.try_call.new.run)) =
    c.in_ok-done.ensures.ok c.try_call.new.locations (tables_stay c.try_call.new.locations) in
    apart_later (part_of c.args.world) c.args.queue.now c.args.queue.now (core_in c.args.run.now) (core_in c.try_call.new.run) refl steps c.requires.apart

pub watch-requires-clause-low : goal.watch-requires-clause-low
watch-requires-clause-low g c =
    let meets : OnlyMeets (core_in c.args.run.now) (core_in c.try_call.new.run) = (was_left (part_of c.args.world) (core_in c.args.run.now)
    (core_in c.try_call.new.run) c.args.i _ c.in_ok-done.ensures.tried c.if-not-done.true).0 in
    subst (λ (core : Core). (d : MacroDirective) → slice_get core.calls c.args.i ≡ Some d → d.site.home < length core.map.modules) (sym meets.is)
    (λ d at. c.requires.ready.calls c.args.i d at)

pub watch-requires-clause-in_order : goal.watch-requires-clause-in_order
watch-requires-clause-in_order g c =
    let meets : OnlyMeets (core_in c.args.run.now) (core_in c.try_call.new.run) = (was_left (part_of c.args.world) (core_in c.args.run.now)
    (core_in c.try_call.new.run) c.args.i _ c.in_ok-done.ensures.tried c.if-not-done.true).0 in
    subst (λ (core : Core). IsInOrder core.map) (sym meets.is) c.requires.ready.in_order

pub watch-requires-clause-up_to_date : goal.watch-requires-clause-up_to_date
watch-requires-clause-up_to_date g c =
    let w = g.D.SourceDatabase.workspace c.args.db.now in
    let steps : Steps (environment c.try_call.new.locations w) (part_of c.args.world) (at_rest (core_in c.args.run.now)) (at_rest (core_in c.try_call.new.run)) =
    c.in_ok-done.ensures.ok c.try_call.new.locations (tables_stay c.try_call.new.locations) in
    let meets : OnlyMeets (core_in c.args.run.now) (core_in c.try_call.new.run) = (was_left (part_of c.args.world) (core_in c.args.run.now)
    (core_in c.try_call.new.run) c.args.i _ c.in_ok-done.ensures.tried c.if-not-done.true).0 in
    up_to_date_met (part_of c.args.world) c.args.queue.now (core_in c.args.run.now) (core_in c.try_call.new.run) c.args.i meets steps c.requires.up_to_date

pub watch-requires-clause-nowhere : goal.watch-requires-clause-nowhere
watch-requires-clause-nowhere g c =
    (was_left (part_of c.args.world) (core_in c.args.run.now) (core_in c.try_call.new.run) c.args.i _ c.in_ok-done.ensures.tried c.if-not-done.true).1

pub returns-clause-ok : goal.returns-clause-ok
returns-clause-ok g c = λ grown k.
    subst (λ (core : Core). Steps (environment grown (g.D.SourceDatabase.workspace c.args.db.now)) (part_of c.args.world) (at_rest (core_in c.args.run.now))
    (at_rest core)) (sym c.wake.ensures.same)
    (c.in_ok-done.ensures.ok grown k)

pub returns-clause-tried : goal.returns-clause-tried
returns-clause-tried g c =
    subst (λ (core : Core). TriesCall (part_of c.args.world) (core_in c.args.run.now) core c.args.i true) (sym c.wake.ensures.same)
    (subst (TriesCall (part_of c.args.world) (core_in c.args.run.now) (core_in c.try_call.new.run) c.args.i) c.if-not-done.false c.in_ok-done.ensures.tried)

pub returns-clause-stays : goal.returns-clause-stays
returns-clause-stays g c = c.in_ok-wake.ensures.woken.on

-- ---- what has changed is gathered

pub returns-clause-gathered : goal.returns-clause-gathered
returns-clause-gathered g c = λ imports behind.
    behind_gathered (part_of c.args.world) imports c.args.grown.now c.append.new.self c.try_call.new.run c.wake.new.run
    (c.in_ok-append.ensures.ok ∙ ap (joined c.args.grown.now) c.changed.ensures.value)
    c.wake.ensures.same c.wake.ensures.globs c.in_ok-wake.ensures.none
    (behind_later (part_of c.args.world) imports c.args.grown.now c.args.run.now c.try_call.new.run c.in_ok-done.ensures.noted behind)

pub returns-then-not-done-clause-gathered : goal.returns-then-not-done-clause-gathered
returns-then-not-done-clause-gathered g c =
    λ imports behind. behind_later (part_of c.args.world) imports c.args.grown.now c.args.run.now c.try_call.new.run c.in_ok-done.ensures.noted behind
