use Rattle.std.proofs.Common.{refl}
use Rattle.hir_collector_state.specs.HirItemTree.KeptForest.{leaf, structure}
use Rattle.hir_collector_state.specs.HirCollectorRules.Steps.{visit}
use Rattle.hir_collector_state.specs.HirCollectorRules.TreeReads.{head_of}
use Rattle.hir_collector_state.proofs.Made.{declared}
use Rattle.hir_collector_items.proofs.declare.declare_struct.Goals as goal

pub returns-clause-ok : goal.returns-clause-ok
returns-clause-ok c = λ env. record {
  step = λ done passed rest.
      declared _ _ (visit c.args.site.now (leaf (head_of c.args.head) (structure c.args.item.name.now c.args.item.shape c.args.item.fields.now))) _ done passed
      rest c.requires.enabled refl refl
      (rw (
        c.in_ok-declare.ensures.ok,
        c.struct_items.ensures.value,
        c.constructor-constructor.ensures.value,
        c.visibility-own.ensures.value,
        c.module_id-at.ensures.value,
        c.in_ok-clone.ensures.value,
      ) refl);
}
