-- Names that go along globs do so in the run.
use Rattle.std.proofs.Common.{rules, refl, subst}
use Rattle.hir_collector_state.specs.HirNameres.WorldParts.{part_of}
use Rattle.hir_import_resolution.specs.Inner.State.{state_in}
use Rattle.hir_collector_rules.specs.Derivation.{IsSpent}
use Rattle.hir_collector_state.specs.contracts.def_collector.DefCollector.{the_view}
use Rattle.hir_collector_rules.specs.State.{Run, State, at_rest, core_in, import_state, with_import_state}
use Rattle.hir_collector_rules.specs.Steps.{Steps}
use Rattle.hir_collector_state.specs.Waiting.{NotesSlots}
use Rattle.hir_collector_imports.proofs.ImportSteps.{spent_from, steps_from}
use Rattle.hir_collector_imports.proofs.NotedImports.{noted_imports}
use Rattle.hir_collector_imports.proofs.settling.spread.Goals as goal

pub returns-in_err-imports-clause-many : goal.returns-in_err-imports-clause-many
unfolding core_in
returns-in_err-imports-clause-many c = λ h env.
    subst (λ (r : Run). IsSpent env (part_of c.args.world) (at_rest (core_in r))) c.run.view_is
    (spent_from _ _ refl (c.in_err-imports.ensures.many (search rules)))

pub returns-clause-ok : goal.returns-clause-ok
unfolding core_in
returns-clause-ok c = λ env.
    let before : State = at_rest (core_in (the_view c.run.inside)) in
    subst (λ (r : Run). Steps env (part_of c.args.world) (at_rest (core_in r)) (with_import_state before (state_in c.in_ok-imports.imports))) c.run.view_is
    (steps_from before (import_state before) refl c.in_ok-imports.ensures.derived)

pub returns-clause-noted : goal.returns-clause-noted
unfolding core_in
returns-clause-noted c =
    let before : Run = the_view c.run.inside in
    let after : Run = record before {
      map = c.in_ok-imports.imports.map;
      local = c.in_ok-imports.imports.local;
      names = c.in_ok-imports.imports.from_glob_import;
      globs = c.in_ok-imports.imports.globs;
      reached = c.in_ok-imports.imports.imports.items;
      taken = c.in_ok-imports.imports.taken.items;
      count = c.in_ok-imports.imports.count;
      changed = c.changed_by.result;
    } in
    subst (λ (r : Run). NotesSlots r after) c.run.view_is
    (noted_imports (part_of c.args.world) before after c.in_ok-imports.ensures.derived c.changed_by.ensures.still c.changed_by.ensures.moves)
