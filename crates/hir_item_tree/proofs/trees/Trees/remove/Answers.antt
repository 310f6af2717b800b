use Rattle.std.proofs.Common.{sym, ap, is_some, ◌∙◌, None}
use Rattle.std.specs.BTreeMap.{get}
use Rattle.hir_base.specs.contracts.tree_id.TreeIdOrd.TheImpl.{ghosts as ids}
use Rattle.hir_item_tree.proofs.TreeKeys.{equal_id, kept_under, changed, absent}
use Rattle.hir_item_tree.proofs.trees.Trees.remove.Goals as goal

-- the source is no more kept under this crate
pub returns-in-Some : goal.returns-in-Some
returns-in-Some c = record {
  value =
      λ q. changed ids.cmp equal_id (λ t. t.value) c.args.key.id c.args.key.krate (get ids.cmp c.args.self.now.by_source)
      (get ids.cmp (c.get_mut.follows.lender c.remove.new.self)) c.in-Some.kept.now c.remove.new.self None
      (λ krate. ap (λ o. kept_under (λ t. t.value) o krate) (sym c.in-Some.ensures.value))
      ((c.get_mut.follows.holds c.remove.new.self).3 (ap is_some (sym c.in-Some.ensures.value))).0
      c.remove.ensures.updates.0 q.id q.krate;
}

-- it wasn't kept under any
pub returns-in_default : goal.returns-in_default
returns-in_default c = record {
  value = λ q. ap (λ m. kept_under (λ t. t.value) (get ids.cmp m q.id) q.krate) c.get_mut.follows.holds-at-none
      ∙ absent ids.cmp equal_id (λ t. t.value) c.args.key.id c.args.key.krate (get ids.cmp c.args.self.now.by_source) c.in_default.ensures.value q.id q.krate;
}
