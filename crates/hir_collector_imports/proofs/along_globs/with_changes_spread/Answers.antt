-- Names that go along globs do so in the run.
use Rattle.std.proofs.Common.{◌≡◌, refl, length, subst}
use Rattle.hir_collector_state.specs.HirDefMapRules.State.{Map}
use Rattle.hir_collector_state.specs.HirNameres.WorldParts.{part_of}
use Rattle.hir_import_resolution.specs.Inner.State.{state_in}
use Rattle.hir_collector_rules.specs.Derivation.{IsSpent}
use Rattle.hir_collector_state.specs.contracts.def_collector.DefCollector.{the_view}
use Rattle.hir_collector_rules.specs.State.{Run, State, core_in, import_state, joined, with_import_state}
use Rattle.hir_collector_rules.specs.Steps.{Steps}
use Rattle.hir_collector_state.specs.Waiting.{IsNotedBeside}
use Rattle.hir_collector_imports.proofs.ImportSteps.{spent_from, steps_from}
use Rattle.hir_collector_imports.proofs.NotedSlots.{both_of_each, noted_spread, same_count, through_both}
use Rattle.hir_collector_imports.proofs.along_globs.with_changes_spread.Goals as goal

pub returns-clause-ok : goal.returns-clause-ok
unfolding core_in
returns-clause-ok c =
    through_both _ _ _ c.spread_changes-imports.result.1 c.note_changes-noted.result c.note_changes-noted.ensures.ok c.spread_changes-imports.ensures.derived
    (λ slots noted steps env rest.
    let before : State = joined (core_in (the_view c.run.inside)) rest in
    subst (λ (r : Run). Steps env (part_of c.args.world) (joined (core_in r) rest) (with_import_state before (state_in c.spread_changes-imports.result.0)))
    c.run.view_is
    (steps_from before (import_state before) refl steps))

pub returns-clause-noted : goal.returns-clause-noted
unfolding core_in
returns-clause-noted c =
    let before : Run = the_view c.run.inside in
    let found = c.spread_changes-imports.result.0 in
    let after : Run = record before {
      map = found.map;
      local = found.local;
      names = found.from_glob_import;
      globs = found.globs;
      reached = found.imports.items;
      taken = found.taken.items;
      count = found.count;
      changed = c.note_changes-noted.new.changed;
    } in
    let slots = c.spread_changes-imports.result.1 in
    let given = c.spread_changes-imports.ensures in
    through_both _ _ _ slots c.note_changes-noted.result c.note_changes-noted.ensures.ok
    (both_of_each _ _ slots (both_of_each _ _ slots given.derived given.changes) given.globs)
    (λ slots noted all.
    subst (λ (r : Run). IsNotedBeside (part_of c.args.world) r after) c.run.view_is
    (noted_spread (part_of c.args.world) before after slots.items all.0.0 all.0.1 given.local noted given.imports given.taken all.1))

pub returns-clause-modules : goal.returns-clause-modules
unfolding core_in
returns-clause-modules c =
    let before : Run = the_view c.run.inside in
    let found : Map = c.spread_changes-imports.result.0.map in
    through_both _ _ _ c.spread_changes-imports.result.1 c.note_changes-noted.result c.note_changes-noted.ensures.ok c.spread_changes-imports.ensures.changes
    (λ slots noted among.
    subst (λ (r : Run). length found.modules ≡ length (core_in r).map.modules) c.run.view_is (same_count before.map found among.differs))

pub returns-clause-many : goal.returns-clause-many
unfolding core_in
returns-clause-many c = λ h env rest.
    subst (λ (r : Run). IsSpent env (part_of c.args.world) (joined (core_in r) rest)) c.run.view_is
    (spent_from (joined (core_in (the_view c.run.inside)) rest) _ refl (c.spread_changes-imports.ensures.many (c.note_changes-noted.ensures.many h)))
