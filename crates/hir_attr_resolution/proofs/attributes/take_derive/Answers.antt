-- The paths that are listed, or what is reported.
use Rattle.std.proofs.Common.{◌∙◌, sym, ap}
use Rattle.std.proofs.lemmas.Result.{on_ok_weaker}
use Rattle.hir_collector_state.specs.HirIds.declared.ids.ModuleId.{ModuleId}
use Rattle.hir_collector_state.specs.HirItemTree.Collected.{numbered}
use Rattle.hir_collector_state.specs.HirDefMapRules.Macros.{with_diagnostic}
use Rattle.hir_collector_state.specs.HirMapParts.declared.diagnostics.DefDiagnostic.{DefDiagnostic}
use Rattle.hir_collector_state.specs.HirCollectorRules.Attributes.{attr_id}
use Rattle.hir_collector_state.specs.HirCollectorRules.Moves.{listed, no_paths, no_target}
use Rattle.hir_collector_state.specs.HirCollectorRules.Reports.{invalid_target, malformed_derive}
use Rattle.hir_collector_state.specs.HirCollectorRules.State.{Core, core_in, with_map}
use Rattle.hir_attr_resolution.proofs.attributes.take_derive.Goals as goal

pub returns-in-Some-paths_in-clause-ok : goal.returns-in-Some-paths_in-clause-ok
returns-in-Some-paths_in-clause-ok c =
    on_ok_weaker c.list_derive.result (λ lists. listed c.in-Some.adt c.in-Some-paths_in.paths.now c.in-Some.is (sym c.in-Some-paths_in.ensures.value) lists)
    c.list_derive.ensures.ok

pub returns-in-Some-paths_in-clause-many : goal.returns-in-Some-paths_in-clause-many
returns-in-Some-paths_in-clause-many c = λ many. record {
  target = c.in-Some.adt;
  is_target = c.in-Some.is;
  paths = c.in-Some-paths_in.paths.now;
  lists = sym c.in-Some-paths_in.ensures.value;
  out = c.list_derive.ensures.many many;
}

pub returns-in_ok-tell-in-None-clause-ok : goal.returns-in_ok-tell-in-None-clause-ok
returns-in_ok-tell-in-None-clause-ok c =
    let old : Core = core_in c.args.run.now in
    no_paths c.in-Some.adt c.in-Some.is (sym c.in-None.ensures.value)
    (c.in_ok-tell-in-None.ensures.ok ∙ ap (λ (d : DefDiagnostic). with_map old (with_diagnostic old.map d))
    (c.malformed_derive.ensures.value ∙ ap (λ (at : ModuleId). malformed_derive at c.args.node (attr_id (numbered c.args.attr.now)))
    c.module_id-at.ensures.value))

pub returns-in_default-clause-ok : goal.returns-in_default-clause-ok
returns-in_default-clause-ok c =
    let old : Core = core_in c.args.run.now in
    no_target c.in_default.is
    (c.in_ok-tell.ensures.ok ∙ ap (λ (d : DefDiagnostic). with_map old (with_diagnostic old.map d))
    (c.invalid_derive_target.ensures.value ∙ ap (λ (at : ModuleId). invalid_target at c.args.node (attr_id (numbered c.args.attr.now)))
    c.module_id-at.ensures.value))
