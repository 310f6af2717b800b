use Rattle.std.proofs.Common.{refl}
use Rattle.hir_collector_state.specs.HirItemTree.KeptForest.{leaf, trait_item}
use Rattle.hir_collector_state.specs.HirCollectorRules.Steps.{visit}
use Rattle.hir_collector_state.specs.HirCollectorRules.TreeReads.{head_of}
use Rattle.hir_collector_state.proofs.Made.{declared}
use Rattle.hir_collector_items.proofs.declare.declare_trait.Goals as goal

pub returns-clause-ok : goal.returns-clause-ok
returns-clause-ok c = λ env. record {
  step =
      λ done passed rest. declared _ _ (visit c.args.site.now (leaf (head_of c.args.head) (trait_item c.args.name.now))) _ done passed rest c.requires.enabled
      refl refl (rw (c.in_ok-declare_type.ensures.ok, c.module_id.ensures.value) refl);
}
