-- Imports that are taken are so in the run.
use Rattle.std.proofs.Common.{rules, ◌≡◌, ◌<◌, ℕ, List, Some, length, slice_get, refl, sym, subst}
use Rattle.hir_collector_state.specs.HirDefMapRules.State.{IsInOrder}
use Rattle.hir_collector_state.specs.HirNameres.WorldParts.{part_of}
use Rattle.hir_collector_state.specs.HirNameres.declared.nameres.path_resolution.slots.Slot.{Slot}
use Rattle.hir_collector_state.specs.HirImportRules.declared.directive.ImportDirective.{ImportDirective}
use Rattle.hir_import_resolution.specs.Inner.State.{state_in}
use Rattle.hir_collector_state.specs.HirImportGrowth.Growth.{GlobsLast}
use Rattle.hir_import_resolution.specs.Rounds.{IsResumable}
use Rattle.hir_collector_state.specs.HirImportRules.Changed.{with_slots}
use Rattle.hir_collector_rules.specs.Derivation.{IsSpent}
use Rattle.hir_collector_state.specs.contracts.def_collector.DefCollector.{the_view}
use Rattle.hir_collector_rules.specs.State.{Run, State, at_rest, core_in, import_state, with_import_state}
use Rattle.hir_collector_rules.specs.Steps.{Steps}
use Rattle.hir_collector_state.specs.Waiting.{NotesSlots}
use Rattle.hir_collector_imports.proofs.ImportSteps.{spent_from, steps_from}
use Rattle.hir_collector_imports.proofs.NotedImports.{noted_taken}
use Rattle.hir_collector_imports.proofs.settling.settle.Goals as goal

pub take_imports-requires-clause-there : goal.take_imports-requires-clause-there
unfolding core_in
take_imports-requires-clause-there c =
    subst (λ (r : Run). (i : ℕ) (d : ImportDirective) → slice_get (core_in r).reached i ≡ Some d → d.home < length (core_in r).map.modules) (sym c.run.view_is)
    c.requires.there

pub take_imports-requires-clause-in_order : goal.take_imports-requires-clause-in_order
unfolding core_in
take_imports-requires-clause-in_order c = subst (λ (r : Run). IsInOrder (core_in r).map) (sym c.run.view_is) c.requires.in_order

pub take_imports-requires-clause-resumable : goal.take_imports-requires-clause-resumable
unfolding core_in
take_imports-requires-clause-resumable c = λ lasting some.
    subst (λ (r : Run). IsResumable (part_of c.args.world) c.args.queue (import_state (at_rest (core_in r))) c.args.grown.now.slots) (sym c.run.view_is)
    (c.requires.resumable lasting some)

pub take_imports-requires-clause-globs : goal.take_imports-requires-clause-globs
unfolding core_in
take_imports-requires-clause-globs c = λ lasting some.
    let now : GlobsLast (part_of c.args.world) (import_state (at_rest (core_in (the_view c.run.inside)))) (the_view c.run.inside).globs =
    subst (λ (r : Run). GlobsLast (part_of c.args.world) (import_state (at_rest (core_in r))) r.globs) (sym c.run.view_is) (c.requires.globs lasting some) in
    now

pub returns-in_err-resting-clause-many : goal.returns-in_err-resting-clause-many
unfolding core_in
returns-in_err-resting-clause-many c = λ h env.
    subst (λ (r : Run). IsSpent env (part_of c.args.world) (at_rest (core_in r))) c.run.view_is
    (spent_from _ _ refl (c.in_err-resting.ensures.many (search rules)))

pub returns-clause-ok : goal.returns-clause-ok
unfolding core_in
returns-clause-ok c = λ env.
    let before : State = at_rest (core_in (the_view c.run.inside)) in
    subst (λ (r : Run). Steps env (part_of c.args.world) (at_rest (core_in r)) (with_import_state before (state_in c.in_ok-resting.resting.imports)))
    c.run.view_is
    (steps_from before (import_state before) refl c.in_ok-resting.ensures.derived)

pub returns-clause-noted : goal.returns-clause-noted
unfolding core_in
returns-clause-noted c =
    let before : Run = the_view c.run.inside in
    let imports = c.in_ok-resting.resting.imports in
    let slots : List Slot = c.in_ok-resting.resting.changed.items in
    let after : Run = record before {
      map = imports.map;
      local = imports.local;
      names = imports.from_glob_import;
      globs = imports.globs;
      reached = imports.imports.items;
      taken = imports.taken.items;
      count = imports.count;
      changed = c.in_ok-changed.changed;
    } in
    subst (λ (r : Run). NotesSlots r after) c.run.view_is
    (noted_taken (part_of c.args.world) before after c.args.apart slots c.in_ok-resting.ensures.derived c.in_ok-resting.ensures.changes
    c.in_ok-resting.ensures.local
    (λ yes. subst (λ (xs : List Slot). c.in_ok-changed.changed ≡ with_slots xs before.changed) c.as_slice-slots.ensures.value
    (c.in_ok-changed.ensures.known yes)) c.in_ok-changed.ensures.still c.in_ok-changed.ensures.moves)
