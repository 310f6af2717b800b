use Rattle.std.proofs.Common.{◌≡◌, ◌∙◌, Some, None, sym, refl}
use Rattle.hir_collector_state.specs.HirItemTree.KeptForest.{function, leaf}
use Rattle.hir_collector_state.specs.HirCollectorRules.Attributes.{export_at}
use Rattle.hir_collector_state.specs.HirCollectorRules.State.{core_in}
use Rattle.hir_collector_state.specs.HirCollectorRules.Steps.{visit}
use Rattle.hir_collector_state.specs.HirCollectorRules.TreeReads.{head_of}
use Rattle.hir_collector_state.proofs.Made.{declared, declared_export}
use Rattle.hir_collector_items.proofs.declare.declare_function.Goals as goal

pub returns-in_default-clause-ok : goal.returns-in_default-clause-ok
returns-in_default-clause-ok c = λ env. record {
  step = λ done passed rest.
      let none : export_at (core_in c.args.run.now).is_proc_macro (core_in c.args.run.now).map c.args.site.now
      (leaf (head_of c.args.head) (function c.args.name.now)) ≡ None =
      sym c.in_ok-exported.ensures.value ∙ c.in_default.is in
      declared _ _ (visit c.args.site.now (leaf (head_of c.args.head) (function c.args.name.now))) _ done passed rest c.requires.enabled refl none
      (rw (c.in_ok-declare_value.ensures.ok, c.container.ensures.value) refl);
}

pub returns-clause-ok : goal.returns-clause-ok
returns-clause-ok c = λ env. record {
  step = λ done passed rest.
      let some : export_at (core_in c.args.run.now).is_proc_macro (core_in c.args.run.now).map c.args.site.now
      (leaf (head_of c.args.head) (function c.args.name.now)) ≡ Some c.in-Some.export =
      sym c.in_ok-exported.ensures.value ∙ c.in-Some.is in
      declared_export _ _ c.args.site.now (head_of c.args.head) c.args.name.now _ c.in-Some.export done passed rest c.requires.enabled refl some
      (rw (c.in_ok-declare_exporting.ensures.ok, c.visibility-vis.ensures.value, c.container.ensures.value) refl);
}
