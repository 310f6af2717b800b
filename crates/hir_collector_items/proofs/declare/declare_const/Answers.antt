use Rattle.std.proofs.Common.{Some, refl}
use Rattle.hir_collector_state.specs.HirItemTree.KeptForest.{leaf, constant}
use Rattle.hir_collector_state.specs.HirCollectorRules.Steps.{visit}
use Rattle.hir_collector_state.specs.HirCollectorRules.TreeReads.{head_of}
use Rattle.hir_collector_state.proofs.Made.{declared}
use Rattle.hir_collector_items.proofs.declare.declare_const.Goals as goal

pub returns-clause-ok : goal.returns-clause-ok
returns-clause-ok c = λ env. record {
  step =
      λ done passed rest. declared _ _ (visit c.args.site.now (leaf (head_of c.args.head) (constant (Some c.args.name.now)))) _ done passed rest
      c.requires.enabled refl refl (rw (c.in_ok-declare_value.ensures.ok, c.container.ensures.value) refl);
}
